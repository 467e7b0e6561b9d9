-- `Sheet::marks_right` meets its contract. The invariant: the words before the next have only rows that they may have. Assumes nothing.
use Rattle.sheet.proofs.Markings.{Marked}
use Rattle.sheet.proofs.Sheet.marks_right.Given as goal

abbrev pub invariant-loop-i : goal.invariant-loop-i
invariant-loop-i l = Marked l.self l.i
