-- `unreached` meets its contract. The invariant: the rows before the next have been looked at. Assumes nothing.
use Rattle.sets.specs.Rows.{bits}
use Rattle.pairing.proofs.SeatReach.{Reaching}
use Rattle.pairing.proofs.seats.unreached.Given as goal

abbrev pub invariant-loop-i : goal.invariant-loop-i
invariant-loop-i l = Reaching (bits l.asked) l.mates (bits l.dead) l.i
