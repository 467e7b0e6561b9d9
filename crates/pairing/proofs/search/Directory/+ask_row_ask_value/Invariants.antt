-- `ask_row` and `ask_value` ask each other. The number that falls is that of the rows not asked yet.
-- The invariant of the loop: what the value has been answered so far. Assumes nothing.
use Prim.Native.Nat.{◌+◌, ◌*◌}
use Rattle.sets.specs.Rows.{width, bits, rows_of}
use Rattle.pairing.specs.Code.Asking.{unasked}
use Rattle.pairing.proofs.AskSteps.{Progress}
use Rattle.pairing.proofs.search.Directory.+ask_row_ask_value.Given as goal

abbrev pub decreases-ask_row : goal.decreases-ask_row
decreases-ask_row l = 2 * unasked width (bits l.asked.now) + 2

abbrev pub decreases-ask_value : goal.decreases-ask_value
decreases-ask_value l = 2 * unasked width (bits l.asked.now) + 1

abbrev pub invariant-ask_value-loop-i : goal.invariant-ask_value-loop-i
invariant-ask_value-loop-i l =
    Progress l.v (rows_of l.self.rows.now) l.initial.mates (bits l.initial.asked) l.mates (bits l.asked) (bits l.left)

abbrev pub decreases-ask_value-loop-i : goal.decreases-ask_value-loop-i
decreases-ask_value-loop-i l = bits l.left
