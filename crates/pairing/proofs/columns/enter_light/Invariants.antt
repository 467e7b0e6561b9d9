-- `enter_light` meets its contract. The invariant: the index is complete. Assumes nothing.
use Rattle.sets.specs.Rows.{bits, rows_of}
use Rattle.pairing.specs.Code.Asking.{Index}
use Rattle.pairing.proofs.columns.enter_light.Given as goal

abbrev pub invariant-loop-i : goal.invariant-loop-i
invariant-loop-i l = Index (rows_of l.rows) (rows_of l.columns) (bits l.left)
