-- `offer_seats` meets its contract: one row more is passed by in each turn of the loop. Assumes nothing.
use Rattle.sets.specs.Rows.{rows_of}
use Rattle.distinct.proofs.Offers.{Offering}
use Rattle.distinct.proofs.steps.offer_seats.Given as goal

abbrev pub invariant-loop-i : goal.invariant-loop-i
invariant-loop-i l =
    Offering l.marked (rows_of l.view) l.initial.keep l.keep l.i l.seats.seating (rows_of l.seats.rows.now) (rows_of l.seats.columns.now)
    l.seats.mates.now
