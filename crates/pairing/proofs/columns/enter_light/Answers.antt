-- `enter_light` meets its contract. The invariant: the index is complete. Assumes nothing.
use Prim.Native.Nat.{◌<◌}
use native.Mathlib.Omega.{arith}
use lib.ListN.{length}
use Rattle.sets.specs.Rows.{bits, rows_of}
use Rattle.pairing.proofs.SeatColumns.{index_entered}
use Rattle.pairing.proofs.columns.enter_light.Goals.{then-count-le-LIGHT, else-count-le-LIGHT}
use Rattle.pairing.proofs.columns.enter_light.Goals as goal

pub loop-i-preserved : goal.loop-i-preserved
loop-i-preserved c =
    let rows = rows_of c.args.rows.now in
    let l = c.loop-i in
    let here : l.i < length rows = omega arith in
    elim c.if-count-le-LIGHT.branch [
      | then-count-le-LIGHT w ↦
          let entered = rw c.row_at-row.ensures.0 at w.enter.ensures in
          rw (w.columns-is, w.left-is, w.without-left.ensures)
          (index_entered rows (rows_of l.columns) (rows_of w.enter.new.columns) (bits l.left) l.i l.invariant here entered)
      | else-count-le-LIGHT w ↦ rw (w.columns-is, w.left-is) l.invariant
    ]
