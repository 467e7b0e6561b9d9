-- `enter` meets its contract. The invariant: the row stands in the columns of its values, but for those that are left. Assumes nothing.
use Prim.Native.Nat.{ℕ, ◌<◌}
use mathlib.Core.Path.{ap, ◌∙◌}
use native.Mathlib.Omega.{arith}
use lib.Bits.{bit_or}
use lib.ListN.{length}
use Rattle.sets.specs.Sets.{single}
use Rattle.sets.specs.Rows.{rows_of}
use Rattle.sets.proofs.LentRows.{rows_stored}
use Rattle.pairing.proofs.SeatColumns.{enter_end, enter_next}
use Rattle.pairing.proofs.columns.enter.Goals as goal

pub loop-v-preserved : goal.loop-v-preserved
loop-v-preserved c =
    let next = c.in-Some.ensures.steps in
    let there : c.in-Some.v < length (rows_of c.loop-v.columns) = omega (arith, c.loop-v.invariant.wide, next.small) in
    let more = c.with-more.ensures ∙ ap (λ (x : ℕ). bit_or x (single c.args.i)) c.row_at.ensures.0 in
    enter_next c.loop-v.invariant _ there next.rest more (rows_stored _ _ _ _ c.put_row.ensures there).1

pub returns : goal.returns
returns c = enter_end c.loop-v.invariant c.in-None.ensures.steps.0
