-- `ValuesLeft::next` meets its contract: it takes the lowest value out, and so there are fewer left. Assumes nothing.
use Rattle.std.proofs.Common.{rules, sym, ap, ◌∙◌}
use borrow.Author.Tests.{eqb-false}
use Rattle.sets.specs.Sets.{single, minus}
use Rattle.sets.specs.Rows.{bits}
use Rattle.sets.proofs.RowValues.{lowest_row, rest_row}
use Rattle.sets.proofs.walk.ValuesLeftIterator.next.Goals as goal

pub returns-clause-steps : goal.returns-clause-steps
returns-clause-steps c =
    let left = c.args.self.now.left in
    let low = lowest_row left _ c.lowest-lowest.ensures (eqb-false _ _ (sym c.is_empty.ensures ∙ c.if-is_empty.false)) in
    record {
      least = c.lowest-lowest.ensures;
      small = low.0;
      there = low.1;
      rest = c.rest-self.ensures ∙ ap (λ v. minus (bits left) (single v)) (sym c.lowest-lowest.ensures);
    }

pub returns-clause-goes : goal.returns-clause-goes
returns-clause-goes c =
    let fewer = rest_row c.args.self.now.left _ c.rest-self.ensures (eqb-false _ _ (sym c.is_empty.ensures ∙ c.if-is_empty.false)) in
    search rules
