-- `minimal::none_within` meets its contract. The invariant of both loops: each row before the next has a value that x has not. Assumes nothing.
use Prim.Native.Nat.{◌*◌}
use Rattle.sets.specs.Rows.{bits, rows_of}
use Rattle.minimal.proofs.Scans.{AllMeet}
use Rattle.minimal.proofs.sieve.none_within.Given as goal

abbrev pub invariant-loop-four : goal.invariant-loop-four
invariant-loop-four l = AllMeet (rows_of l.mins) (bits l.others) (4 * l.four)

abbrev pub invariant-loop-i : goal.invariant-loop-i
invariant-loop-i l = AllMeet (rows_of l.mins) (bits l.others) l.i
