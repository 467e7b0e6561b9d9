-- `Seats::sit_near` meets its contract. Assumes nothing.
use Prim.Native.Nat.{◌<◌}
use mathlib.Core.Bool.{true≢false}
use native.Mathlib.Omega.{arith}
use lib.ListN.{take}
use Rattle.sets.specs.Rows.{bits, rows_of}
use Rattle.sets.proofs.LentRows.{rows_stored}
use Rattle.pairing.specs.Code.Seats.{seats}
use Rattle.pairing.proofs.SeatSteps.{seat_room, seat_direct, near_free}
use Rattle.pairing.proofs.Benches.{fresh_free}
use Rattle.pairing.proofs.seats.Seats.sit_near.Goals.{After-near-v}
use Rattle.pairing.proofs.seats.Seats.sit_near.Goals as goal

pub near-v-requires : goal.near-v-requires
near-v-requires c =
    let s = c.args.self.now in (
      c.requires.free_nonzero,
      fresh_free s.seating (take s.seating.used (rows_of s.rows.now)) (rows_of s.columns.now) (take s.seating.used s.mates.now)
          c.requires.sitting.0.bench (bits c.args.row) c.requires.sitting.1,
    )

-- a value is free, so there is room
room : (c : After-near-v) → c.args.self.now.seating.used < seats
room c = seat_room c.requires.sitting.0 (near_free (bits c.args.self.now.seating.free) c.near-v.result c.near-v.ensures.1)

pub put_row-requires : goal.put_row-requires
put_row-requires c = omega (arith, room (goal.at.put_row-requires c).After-near-v, c.requires.sitting.0.rows_wide)

pub bounds-self-s : goal.bounds-self-s
bounds-self-s c = omega (arith, room (goal.at.bounds-self-s c).After-near-v, c.requires.sitting.0.mates_wide)

pub seated-self-requires : goal.seated-self-requires
seated-self-requires c = (c.near-v.ensures.0, room (goal.at.seated-self-requires c).After-near-v)

pub returns : goal.returns
returns c =
    let there = room (goal.at.returns c).After-near-v in
    let stored = rows_stored _ _ _ _ c.put_row.ensures (omega (arith, there, c.requires.sitting.0.rows_wide)) in
    record {
      seat =
          rw stored.1
          (seat_direct c.requires.sitting.0 (bits c.args.row) c.requires.sitting.1 there c.near-v.result c.seated-self.result c.near-v.ensures.1
          c.near-v.ensures.2 c.seated-self.ensures);
      more = λ _. omega (arith, c.seated-self.ensures.used);
      same = λ f. absurd (true≢false f);
    }
