-- `cell` meets its contract. Assumes nothing.
use Rattle.std.proofs.Common.{◌∙◌, sym, ap, subst, arith}
use borrow.Author.Tests.{eqb-true, eqb-false}
use Rattle.sets.specs.Sets.{all}
use Rattle.sets.specs.Rows.{Holds}
use Rattle.files.proofs.CellLaws.{unknown_cell, known_cell}
use Rattle.files.proofs.ReadFiles.{readable}
use Rattle.files.proofs.cells.Judged.cell.Goals as goal

pub row-row-requires : goal.row-row-requires
row-row-requires c = omega (arith, (readable _ _ _ c.args.self.now.accepted).whole, c.requires)

pub all-requires : goal.all-requires
all-requires c = omega (arith, (readable _ _ _ c.args.self.now.accepted).narrow)

pub returns-then-is_empty : goal.returns-then-is_empty
returns-then-is_empty c =
    let none = sym c.row-row.ensures.0 ∙ eqb-true _ _ (sym c.is_empty.ensures ∙ c.if-is_empty.true) in
    let values = (readable _ _ _ c.args.self.now.accepted).values in
    subst (Holds c.all.result) (ap all values ∙ sym (unknown_cell _ _ none)) c.all.ensures

pub returns-else-is_empty : goal.returns-else-is_empty
returns-else-is_empty c =
    let row = c.row-row in
    let some = eqb-false _ _ (sym c.is_empty.ensures ∙ c.if-is_empty.false) in
    subst (Holds row.result) (sym (known_cell _ _ (λ z. some (row.ensures.0 ∙ z)))) row.ensures
