-- `minimal::mark_singles` meets its contract. The invariant: the rows before `i` are passed. Assumes nothing.
use Rattle.sets.specs.Rows.{bits, rows_of}
use Rattle.minimal.proofs.SingleRows.{Passed}
use Rattle.minimal.proofs.singles.mark_singles.Given as goal

abbrev pub invariant-loop-i : goal.invariant-loop-i
invariant-loop-i l = Passed (rows_of l.rows) l.keep l.i (bits l.singles)
