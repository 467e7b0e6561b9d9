-- `Seats::offer` meets its contract. Assumes nothing.
use mathlib.Core.Path.{sym, ◌∙◌}
use borrow.Author.Tests.{eqb-true, not-false}
use Rattle.pairing.proofs.SeatSteps.{seat_room}
use Rattle.pairing.proofs.seats.Seats.offer.Goals as goal

pub seek-self-requires : goal.seek-self-requires
seek-self-requires c =
    record {
      sits = c.requires.0;
      low = c.requires.1;
      apart = eqb-true _ _ (not-false _ (sym c.meets.ensures ∙ c.if-meets.false));
      room = seat_room c.requires.0 (c.hopeless.ensures.some c.if-hopeless.false);
    }
