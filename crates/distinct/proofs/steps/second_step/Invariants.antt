-- `second_step` meets its contract: a turn of offers to the marked rows, then one to the others. Assumes nothing.
use Rattle.sets.specs.Rows.{rows_of}
use Rattle.distinct.proofs.Offers.{Turned}
use Rattle.distinct.proofs.steps.second_step.Given as goal

abbrev pub invariant-loop-marked : goal.invariant-loop-marked
invariant-loop-marked l =
    Turned l.marked-index (rows_of l.view) l.initial.keep l.keep l.seats.seating (rows_of l.seats.rows.now) (rows_of l.seats.columns.now)
    l.seats.mates.now
