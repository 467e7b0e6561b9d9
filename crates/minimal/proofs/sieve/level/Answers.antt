-- `minimal::level` meets its contract.
-- The invariant: the rows of the chain before `place` are judged, and the tags are those of its minimal rows. Assumes nothing.
use Prim.Native.Nat.{ℕ, ◌≤◌, ◌<◌}
use mathlib.Core.Path.{ap, ◌∙◌}
use mathlib.Core.Logic.{inl, inr}
use native.Mathlib.Omega.{arith}
use lib.ListN.{length, set}
use Rattle.sets.specs.Rows.{rows_of, tag_of}
use Rattle.sets.proofs.LentRows.{rows_as_long, rows_stored}
use Rattle.theory.specs.Pairings.{at}
use Rattle.minimal.specs.Code.Marking.{Scanned, with_tag}
use Rattle.minimal.proofs.RowTags.{tagged_start, tagged_more, tested}
use Rattle.minimal.proofs.Sifting.{walk_start, walk_room, walk_miss, walk_hit, sieve_next}
use Rattle.minimal.proofs.sieve.level.Goals.{In-loop-place, After-none_within}
use Rattle.minimal.proofs.sieve.level.Goals as goal

-- the row at `place` is one of the view
here : (c : In-loop-place) → c.loop-place.place < length (rows_of c.args.rows.now)
here c = omega arith

-- fewer rows are found than there are, and so there is room for one more
fewer : (c : In-loop-place) → c.loop-place.found < length (rows_of c.args.rows.now)
fewer c = walk_room c.requires.k_le_width.2 c.loop-place.invariant.0 (here c)

room : (c : In-loop-place) → c.loop-place.found < length (rows_of c.loop-place.mins)
room c = omega (arith, fewer c, rows_as_long c.loop-place.mins c.args.mins.now c.loop-place.auto.mins)

-- the test answers for all rows found so far
scanned : (c : After-none_within)
    → Scanned c.none_within.result (rows_of c.loop-place.mins) c.loop-place.found (at (rows_of c.args.rows.now) c.loop-place.place)
scanned c =
    let l = c.loop-place in
    let same = c.row_at-x.ensures.0 in
    let there : l.place < length (rows_of c.args.rows.now) = omega arith in
    let few = rw same at c.to_test.ensures in
    tested l.invariant.1 (at (rows_of c.args.rows.now) l.place) (l.invariant.0.hit there).1 _ few _ (rw same at c.none_within.ensures)

pub loop-place-init : goal.loop-place-init
loop-place-init c = (
  rw c.from-place.ensures (walk_start c.requires.k_le_width.2 c.requires.k_le_width.0 c.requires.sieve),
  tagged_start (rows_of c.args.mins.now) c.args.found c.args.k _ (ap length c.none-tags.ensures),
)

pub none_within-requires : goal.none_within-requires
none_within-requires c =
    let there = room (goal.at.none_within-requires c).In-loop-place in
    elim c.to_test.ensures [ inl q ↦ omega arith | inr q ↦ omega (arith, q.0, c.loop-place.invariant.1.least) ]

pub put_row-requires : goal.put_row-requires
put_row-requires c = room (goal.at.put_row-requires c).In-loop-place

pub overflow_add-found : goal.overflow_add-found
overflow_add-found c = record { fits = omega (arith, fewer (goal.at.overflow_add-found c).In-loop-place) }

pub loop-place-preserved-then-none_within : goal.loop-place-preserved-then-none_within
loop-place-preserved-then-none_within c =
    let l = c.loop-place in
    let at-place = (goal.at.loop-place-preserved-then-none_within c).In-loop-place in
    let long = room at-place in
    let same = c.row_at-x.ensures.0 in
    let mins = (rows_stored _ _ _ _ c.put_row.ensures long).1 ∙ ap (set (rows_of l.mins) l.found) same in
    let tags = c.add.ensures ∙ ap (λ (x : ℕ). with_tag l.tags.words (tag_of x)) same in
    let none = (scanned (goal.at.loop-place-preserved-then-none_within c).After-none_within).none c.if-none_within.true in (
      walk_hit c.requires.k_le_width.2 l.invariant.0 (here at-place) none long mins,
      tagged_more l.invariant.1 (at (rows_of c.args.rows.now) l.place) (l.invariant.0.hit (here at-place)).1 long mins tags,
    )

pub loop-place-preserved : goal.loop-place-preserved
loop-place-preserved c =
    let some = (scanned (goal.at.loop-place-preserved c).After-none_within).some c.if-none_within.false in
    (walk_miss c.requires.k_le_width.2 c.loop-place.invariant.0 (here (goal.at.loop-place-preserved c).In-loop-place) some, c.loop-place.invariant.1)

pub returns : goal.returns
returns c =
    let past : length (rows_of c.args.rows.now) ≤ c.loop-place.place = omega arith in
    sieve_next past c.loop-place.invariant.0.sieve
