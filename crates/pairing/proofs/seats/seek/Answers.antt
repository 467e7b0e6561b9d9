-- `seek` meets its contract. Assumes nothing.
use Prim.Native.Nat.{◌+◌, ◌≤◌}
use mathlib.Core.Path.{sym}
use native.Mathlib.Omega.{arith}
use lib.Seq.{length-take-le}
use Rattle.sets.specs.Rows.{bits, rows_of}
use Rattle.pairing.specs.Code.Seats.{seats}
use Rattle.pairing.proofs.SeatSteps.{Searched, seek_stored, seek_fits, seek_front, seek_index, seek_searches, seek_found, seek_mates, seek_lost}
use Rattle.pairing.proofs.seats.seek.Goals.{After-search-found}
use Rattle.pairing.proofs.seats.seek.Goals as goal

searched : (c : After-search-found) →
    Searched (bits c.args.row) c.args.s (rows_of c.args.rows.now) c.args.mates.now (rows_of c.enter_light-heavy.new.columns)
    c.enter_light-heavy.result c.search-found.result c.search-found.new.mates (bits c.search-found.new.asked)
searched c =
    let front = seek_front _ _ c.requires c.put_row.ensures in
    let before : c.args.s.used ≤ seats = omega (arith, c.requires.room) in
    let through : c.args.s.used + 1 ≤ seats = omega (arith, c.requires.room) in
    record {
      index = rw (front c.args.s.used before) at c.enter_light-heavy.ensures;
      from = bits c.minus-from.result;
      is = c.minus-from.ensures;
      answer = rw (front (c.args.s.used + 1) through) at c.search-found.ensures;
      long = c.search-found.auto.mates;
    }

pub slice_bounds-enter_light-end : goal.slice_bounds-enter_light-end
slice_bounds-enter_light-end c = seek_fits _ _ c.requires c.put_row.ensures c.args.s.used (omega (arith, c.requires.room))

pub slice_bounds-enter_light-end-2 : goal.slice_bounds-enter_light-end-2
slice_bounds-enter_light-end-2 c =
    sym (length-take-le _ _ (seek_fits _ _ c.requires c.put_row.ensures c.args.s.used (omega (arith, c.requires.room))))

pub enter_light-heavy-requires : goal.enter_light-heavy-requires
enter_light-heavy-requires c =
    rw (seek_front _ _ c.requires c.put_row.ensures c.args.s.used (omega (arith, c.requires.room))) (seek_index c.requires)

pub slice_bounds-directory-end : goal.slice_bounds-directory-end
slice_bounds-directory-end c = seek_fits _ _ c.requires c.put_row.ensures (c.args.s.used + 1) (omega (arith, c.requires.room))

pub slice_bounds-directory-end-2 : goal.slice_bounds-directory-end-2
slice_bounds-directory-end-2 c =
    sym (length-take-le _ _ (seek_fits _ _ c.requires c.put_row.ensures (c.args.s.used + 1) (omega (arith, c.requires.room))))

pub search-found-requires : goal.search-found-requires
search-found-requires c =
    let front = seek_front _ _ c.requires c.put_row.ensures in
    let before : c.args.s.used ≤ seats = omega (arith, c.requires.room) in
    let through : c.args.s.used + 1 ≤ seats = omega (arith, c.requires.room) in
    let entered = rw (front c.args.s.used before) at c.enter_light-heavy.ensures in (
      rw (front (c.args.s.used + 1) through)
          (seek_searches c.requires entered (bits c.minus-from.result) _ c.minus-from.ensures c.with.ensures),
      c.empty-asked.ensures.0,
    )

pub unreached-requires : goal.unreached-requires
unreached-requires c = seek_mates c.requires (searched (goal.at.unreached-requires c).After-search-found) c.in-None.is

pub returns-in-Some : goal.returns-in-Some
returns-in-Some c =
    rw (seek_stored _ _ c.requires c.put_row.ensures).1
    (seek_found c.requires (searched (goal.at.returns-in-Some c).After-search-found) c.in-Some.is c.seated.result c.seated.ensures)

pub returns-in-None : goal.returns-in-None
returns-in-None c =
    rw (seek_stored _ _ c.requires c.put_row.ensures).1
    (seek_lost c.requires (searched (goal.at.returns-in-None c).After-search-found) c.in-None.is c.unreached.result c.unreached.ensures)
