-- `fill` meets its contract. The invariant: the cells before the next stand at the front. Assumes nothing.
use Prim.Native.Nat.{ℕ, ◌+◌, ◌*◌, ◌<◌}
use mathlib.Core.Path.{◌≡◌, sym, ap, ◌∙◌, subst}
use mathlib.Core.List.{List, ◌++◌}
use native.Mathlib.Omega.{arith}
use lib.ListN.{length, drop}
use Rattle.sets.specs.Rows.{row_words, rows_of, in_words, put_row}
use Rattle.sets.proofs.LentRows.{rows_as_long}
use Rattle.files.specs.Rows.{list_to}
use Rattle.files.specs.Files.{cell_in}
use Rattle.files.proofs.Filling.{Filling, filling_start, filling_next, filling_end}
use Rattle.files.proofs.ReadFiles.{readable}
use Rattle.files.proofs.cells.Judged.fill.Goals as goal

pub loop-next-init : goal.loop-next-init
loop-next-init c = (omega arith, filling_start (cell_in c.args.self.now.file.now) c.args.list.now)

pub put_row-requires : goal.put_row-requires
put_row-requires c =
    omega (arith, rows_as_long c.loop-next.list c.args.list.now c.loop-next.invariant.1.long, c.loop-next-test.true, c.requires)

pub loop-next-preserved : goal.loop-next-preserved
loop-next-preserved c =
    let l = c.loop-next in
    let less = c.loop-next-test.true in
    let inside : l.next < length (rows_of c.args.list.now) = omega (arith, less, c.requires) in
    let put = c.put_row.ensures ∙ ap (put_row l.list l.next) c.cell.ensures.0 in (
      omega (arith, less),
      subst (λ (ws : List ℕ). Filling (cell_in c.args.self.now.file.now) c.args.list.now ws (l.next + 1)) (sym put)
          (filling_next (cell_in c.args.self.now.file.now) c.args.list.now l.list l.next l.invariant.1 inside),
    )

pub returns : goal.returns
returns c =
    let l = c.loop-next in
    let file = c.args.self.now.file.now in
    let all : l.next ≡ c.args.self.now.rows = omega (arith, l.invariant.0, c.loop-next-test.false) in
    let count = all ∙ (readable _ _ _ c.args.self.now.accepted).count in
    filling_end (cell_in file) c.args.list.now l.list l.next l.invariant.1
    ∙ (λ i. in_words (list_to (cell_in file) (count i)) ++ drop (all i * row_words) c.args.list.now)
