-- `Sheet::tally` meets its contract. The invariant: the places before the next are right and counted. Assumes nothing.
use Rattle.sheet.proofs.Surveying.{Tallied}
use Rattle.sheet.proofs.Sheet.tally.Given as goal

abbrev pub invariant-loop-place : goal.invariant-loop-place
invariant-loop-place l = Tallied l.self l.counts l.place
