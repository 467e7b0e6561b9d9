-- `enter` meets its contract. The invariant: the row stands in the columns of its values, but for those that are left. Assumes nothing.
use Rattle.sets.specs.Rows.{bits, rows_of}
use Rattle.pairing.proofs.SeatColumns.{Entering}
use Rattle.pairing.proofs.columns.enter.Given as goal

abbrev pub invariant-loop-v : goal.invariant-loop-v
invariant-loop-v l = Entering (bits l.fn.row) l.i (rows_of l.initial.columns) (rows_of l.columns) (bits l.v-iterator.left)
