-- `sets::lent::bad_row` meets its contract. The invariant: the rows from i on decide. Assumes nothing.
use Prim.Native.Nat.{◌≤◌}
use mathlib.Core.Path.{◌≡◌}
use lib.ListN.{length, drop}
use Rattle.sets.specs.Rows.{rows_of}
use Rattle.sets.specs.Tables.{bad_from, bad_row}
use Rattle.sets.proofs.lent.bad_row.Given as goal

abbrev pub invariant-loop-i : goal.invariant-loop-i
invariant-loop-i l = (l.i ≤ length (rows_of l.table)) × (bad_row l.d (rows_of l.table) ≡ bad_from l.d l.i (drop l.i (rows_of l.table)))
