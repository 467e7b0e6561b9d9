-- The same on the places in which the seats are kept: the first are in use, and the next is stored to. Assumes nothing.
use Prim.Native.Nat.{ℕ, zero, ◌+◌, ◌*◌, ◌≤◌, ◌<◌}
use mathlib.Core.Path.{◌≡◌, refl, sym, ap, ◌∙◌, subst}
use mathlib.Core.Logic.{◌≢◌, ◌⊎◌, inl, inr}
use mathlib.Core.Bool.{true, ◌&&◌}
use Rattle.std.specs.Prelude.{Option, Some, None}
use mathlib.Core.List.{List, [], ◌∷◌, ◌++◌, append_assoc}
use native.Mathlib.Nat.{le_refl}
use native.Mathlib.Numerals.{add-one}
use native.Mathlib.Omega.{arith}
use lib.Bits.{bit_and, bit_or}
use lib.Count.{count_trailing_zeros}
use lib.ListN.{length, set, take, drop, length-set, length-append, length-drop}
use lib.Seq.{take-suc-set, take-set-le, length-take-le, take_at}
use Rattle.sets.specs.declared.Row.{Row}
use Rattle.sets.specs.Sets.{has, single, minus}
use Rattle.sets.specs.Rows.{row_words, width, bits, rows_of, put_row}
use Rattle.sets.proofs.LentRows.{rows_stored, rows_end, rows_take}
use Rattle.sets.proofs.Bools.{and_left, and_right, not_both}
use Rattle.sets.proofs.Values.{has-and, has-empty}
use Rattle.sets.proofs.ValuesBelow.{some_value}
use Rattle.sets.proofs.RowValues.{lowest_row}
use Rattle.theory.specs.Pairings.{at}
use Rattle.theory.proofs.Places.{mate?}
use Rattle.pairing.specs.declared.seats.Seating.{Seating}
use Rattle.pairing.specs.Code.Asking.{Inside, Index, Searches, Grown, Failed, OfSearch}
use Rattle.pairing.specs.Code.Seats.{seats, Mates, Unreached, Below, Bench, Sitting, Seeks, Reseated, OfSeat}
use Rattle.pairing.proofs.Benches.{seat_left, bench_more, bench_searches, bench_direct, search_part, search_all, failed_shut}
use Rattle.pairing.proofs.Benches.{failed_row, bench_other}

-- the row is passed over
pub seat_passed : {row : ℕ} {s : Seating} {rows columns mates : List ℕ} → Sitting s rows columns mates
    → Inside row (bits s.dead) ⊎ (bits s.free ≡ zero)
    → OfSeat row s rows s rows columns mates
seat_passed S why = record { sits = S; column = refl; either = inl (record { used = refl; rows_kept = refl; why = why }) }

module _ {s : Seating} {rows columns mates : List ℕ} (S : Sitting s rows columns mates) where
  -- the rows that sit, and their mates
  abbrev R : List ℕ
  R = take s.used rows

  abbrev p : List ℕ
  p = take s.used mates

  -- a value is free, so there is room
  pub seat_room : bits s.free ≢ zero → s.used < seats
  seat_room some = let t = some_value (bits s.free) some in omega (arith, seat_left s R columns p S.bench t.0 t.1, S.bench.used)

  module _ (row : ℕ) (low : Below s.d row) (room : s.used < seats) where
    rows_put : take (s.used + 1) (set rows s.used row) ≡ R ++ row ∷ []
    rows_put = rw add-one (take-suc-set rows s.used row (omega (arith, S.rows_wide)))

    mates_put : (x : ℕ) → take (s.used + 1) (set mates s.used x) ≡ p ++ x ∷ []
    mates_put x = rw add-one (take-suc-set mates s.used x (omega (arith, S.mates_wide)))

    rows_old : take s.used (set rows s.used row) ≡ R
    rows_old = take-set-le s.used rows s.used row (le_refl s.used)

    -- the row has got the next seat, and the rows the mates p'
    seat_more : (s₁ s₂ : Seating) (columns' : List ℕ) (v : ℕ) (p' mates' : List ℕ) → s₁.used ≡ s.used → s₁.d ≡ s.d
        → Bench s₁ R columns' p → has (bits s₁.free) v ≡ true → Grown (R ++ row ∷ []) v (p ++ zero ∷ []) p' → length mates' ≡ seats
        → take (s.used + 1) mates' ≡ p' → Reseated s₁ row v s₂ → OfSeat row s rows s₂ (set rows s.used row) columns' mates'
    seat_more s₁ s₂ columns' v p' mates' same-used same_d B t G wide is T = record {
      sits = record {
        rows_wide = length-set rows s.used row ∙ S.rows_wide;
        mates_wide = wide;
        few = omega (arith, next, room);
        bench =
            subst (λ (l : List ℕ). Bench s₂ l columns' (take s₂.used mates')) (sym rows_now)
            (subst (Bench s₂ (R ++ row ∷ []) columns') (sym mates_now)
            (bench_more s₁ R columns' p B row (subst (λ (n : ℕ). Below n row) (sym same_d) low) v t p' G s₂ T));
      };
      column = T.d ∙ same_d;
      either = inr (record { used = next; rows_more = rows_now });
    }
      where
        next : s₂.used ≡ s.used + 1
        next = T.used ∙ ap (λ (n : ℕ). n + 1) same-used

        rows_now : take s₂.used (set rows s.used row) ≡ R ++ row ∷ []
        rows_now = ap (λ (n : ℕ). take n (set rows s.used row)) next ∙ rows_put

        mates_now : take s₂.used mates' ≡ p'
        mates_now = ap (λ (n : ℕ). take n mates') next ∙ is

    -- it takes a free value at once
    pub seat_direct : (v : ℕ) (s' : Seating) → has (bits s.free) v ≡ true → has row v ≡ true → Reseated s row v s'
        → OfSeat row s rows s' (set rows s.used row) columns (set mates s.used (v + 1))
    seat_direct v s' t h T =
        seat_more s s' columns v (p ++ (v + 1) ∷ []) (set mates s.used (v + 1)) refl refl S.bench t
        (bench_direct s R columns p S.bench row low v t h)
        (length-set mates s.used (v + 1) ∙ S.mates_wide) (mates_put (v + 1)) T

-- ---- a search

-- the places when the new row stands at the next one, without a mate
abbrev pub rows_with : ℕ → Seating → List ℕ → List ℕ
rows_with row s rows = set rows s.used row

abbrev pub mates_with : Seating → List ℕ → List ℕ
mates_with s mates = set mates s.used zero

-- the seats when the light rows are entered, for a search
abbrev pub searched_seats : Seating → Row → Row → Seating
searched_seats s heavy dead =
    record { d = s.d; used = s.used; entered = s.used; free = s.free; dead = dead; fresh = s.fresh; heavy = heavy }

-- what a search has answered, which had the index and the values that a row on a seat holds
pub record Searched (row : ℕ) (s : Seating) (rows mates columns' : List ℕ) (heavy' : Row) (r : Option ℕ) (p' : List ℕ) (asked : ℕ) : Type 0 where
  pub index : Index (take s.used (rows_with row s rows)) columns' (bits heavy')
  pub from : ℕ
  pub is : from ≡ minus (bits s.free) (bits s.fresh)
  pub answer : OfSearch r from (take (s.used + 1) (rows_with row s rows)) (take (s.used + 1) (mates_with s mates)) p' asked
  pub long : length p' ≡ length (take (s.used + 1) (mates_with s mates))

module _ {row : ℕ} {s : Seating} {rows columns mates : List ℕ} (K : Seeks row s rows columns mates) where
  abbrev S : Sitting s rows columns mates
  S = K.sits

  pub rows_long : length (rows_with row s rows) ≡ seats
  rows_long = length-set rows s.used row ∙ S.rows_wide

  pub mates_long : length (mates_with s mates) ≡ seats
  mates_long = length-set mates s.used zero ∙ S.mates_wide

  pub mates_next : s.used + 1 ≤ length (mates_with s mates)
  mates_next = omega (arith, mates_long, K.room)

  pub seek_index : (length (take s.used (rows_with row s rows)) ≤ seats)
      × Index (take s.used (rows_with row s rows)) columns (bits s.heavy)
  seek_index =
      let old = rows_old S row K.low K.room in
      (omega (arith, ap length old, S.bench.used), subst (λ (l : List ℕ). Index l columns (bits s.heavy)) (sym old) S.bench.index)

  -- with the index as it is when the light rows are entered
  module _ {columns' : List ℕ} {heavy' : ℕ} (X : Index (take s.used (rows_with row s rows)) columns' heavy') where
    index : Index (R S) columns' heavy'
    index = subst (λ (l : List ℕ). Index l columns' heavy') (rows_old S row K.low K.room) X

    pub seek_searches : (from all : ℕ) → from ≡ minus (bits s.free) (bits s.fresh) → all ≡ bit_or heavy' (single s.used)
        → Searches from (take (s.used + 1) (rows_with row s rows)) columns' all (take (s.used + 1) (mates_with s mates))
    seek_searches from all is every =
        rw (is, every, rows_put S row K.low K.room, mates_put S row K.low K.room zero)
        (subst (λ (n : ℕ).
        Searches (minus (bits s.free) (bits s.fresh)) (R S ++ row ∷ []) columns' (bit_or heavy' (single n)) (p S ++ zero ∷ []))
        S.bench.used
        (search_part s (R S) columns (p S) S.bench row K.low
        (bench_searches s (R S) columns (p S) S.bench row K.low columns' heavy' (omega (arith, S.bench.used, K.room)) index)))

  module _ {columns' : List ℕ} {heavy' : Row} {r : Option ℕ} {p' : List ℕ} {asked : ℕ}
      (F : Searched row s rows mates columns' heavy' r p' asked) where
    -- the mates when the search is over
    abbrev mates' : List ℕ
    mates' = p' ++ drop (s.used + 1) (mates_with s mates)

    long : length p' ≡ s.used + 1
    long = F.long ∙ length-take-le (s.used + 1) (mates_with s mates) mates_next

    pub seek_long : length mates' ≡ seats
    seek_long = omega (
      arith,
      length-append p' (drop (s.used + 1) (mates_with s mates)),
      length-drop (s.used + 1) (mates_with s mates),
      mates_long,
      long,
      K.room,
    )

    pub seek_found : {v : ℕ} → r ≡ Some v → (s' : Seating) → Reseated (searched_seats s heavy' s.dead) row v s'
        → OfSeat row s rows s' (rows_with row s rows) columns' mates'
    seek_found {v} is s' T =
        let k = search_all s (R S) columns (p S) S.bench row K.low (Some v) (p S ++ zero ∷ []) p' asked K.apart
        (rw (is, F.is, rows_put S row K.low K.room, mates_put S row K.low K.room zero) at F.answer) in
        let bench =
        bench_other s (R S) columns (p S) S.bench columns' s.used heavy' s.dead (index F.index) S.bench.shut in
        seat_more S row K.low K.room (searched_seats s heavy' s.dead) s' columns' v p' mates' refl refl bench k.1 k.2 seek_long
        (take_at p' (drop (s.used + 1) (mates_with s mates)) (s.used + 1) long) T

    -- no value has got a row: the mates are as they were
    module _ (none : r ≡ None) where
      plain : Failed (bits s.free) (R S ++ row ∷ []) (p S ++ zero ∷ []) p' asked
      plain =
          search_all s (R S) columns (p S) S.bench row K.low None (p S ++ zero ∷ []) p' asked K.apart
          (rw (none, F.is, rows_put S row K.low K.room, mates_put S row K.low K.room zero) at F.answer)

      mates_old : take s.used mates' ≡ p S
      mates_old =
          ap (λ (l : List ℕ). take s.used (l ++ drop (s.used + 1) (mates_with s mates))) plain.still
          ∙ ap (take s.used) (append_assoc (p S) (zero ∷ []) (drop (s.used + 1) (mates_with s mates)))
          ∙ take_at (p S) (zero ∷ drop (s.used + 1) (mates_with s mates)) s.used
          (length-take-le s.used mates (omega (arith, S.mates_wide, K.room)))

      pub seek_mates : Mates (take s.used mates')
      seek_mates = subst Mates (sym mates_old) (record {
        few = omega (arith, S.bench.pairing.fits, S.bench.used, K.room);
        small = λ i. elim (mate? (at (p S) i)) [
          | inl z ↦ omega (arith, z)
          | inr t ↦ omega (arith, t.1, (S.bench.pairing.holds i t.0 t.1).0)
        ];
      })

      pub seek_lost : (dead : Row) → Unreached asked (take s.used mates') (bits dead)
          → OfSeat row s rows (searched_seats s heavy' dead) (rows_with row s rows) columns' mates'
      seek_lost dead D = record {
        sits = record {
          rows_wide = rows_long;
          mates_wide = seek_long;
          few = S.few;
          bench = rw (rows_old S row K.low K.room, mates_old)
              (bench_other s (R S) columns (p S) S.bench columns' s.used heavy' dead (index F.index)
              (failed_shut s (R S) columns (p S) S.bench row K.low p' asked (bits dead) plain plain_dead));
        };
        column = refl;
        either = inl (record {
          used = refl;
          rows_kept = rows_old S row K.low K.room;
          why = inl (failed_row s (R S) columns (p S) S.bench row K.low p' asked (bits dead) plain plain_dead);
        });
      }
        where
          plain_dead : Unreached asked (p S) (bits dead)
          plain_dead = subst (λ (l : List ℕ). Unreached asked l (bits dead)) mates_old D

-- the words when the new row is stored, and the rows that the first of them hold
module _ (new : Row) {s : Seating} (words : List ℕ) {columns mates : List ℕ} (K : Seeks (bits new) s (rows_of words) columns mates)
    {words' : List ℕ} (put : words' ≡ put_row words s.used (bits new)) where
  pub seek_stored : (length words' ≡ length words) × (rows_of words' ≡ rows_with (bits new) s (rows_of words))
  seek_stored = rows_stored words words' s.used new put (omega (arith, K.room, K.sits.rows_wide))

  there : (k : ℕ) → k ≤ seats → k ≤ length (rows_of words')
  there k h = omega (arith, ap length seek_stored.1, rows_long K)

  pub seek_fits : (k : ℕ) → k ≤ seats → k * row_words ≤ length words'
  seek_fits k h = rows_end words' k (there k h)

  pub seek_front : (k : ℕ) → k ≤ seats → rows_of (take (k * row_words) words') ≡ take k (rows_with (bits new) s (rows_of words))
  seek_front k h = rows_take k words' (there k h) ∙ ap (take k) seek_stored.1

-- the lowest value that the row has in common with others
pub near_value : (row free : ℕ) (both : Row) (v : ℕ) → bits both ≡ bit_and row free → v ≡ count_trailing_zeros width (bits both) → bits both ≢ zero
    → (v < width) × (has free v ≡ true) × (has row v ≡ true)
near_value row free both v is low some =
    let t = lowest_row both v low some in
    let each : (has row v && has free v) ≡ true = sym (has-and row free v) ∙ ap (λ (x : ℕ). has x v) (sym is) ∙ t.1 in
    (t.0, and_right (has row v) (has free v) each, and_left (has row v) (has free v) each)

-- and then there is a free value
pub near_free : (free v : ℕ) → has free v ≡ true → free ≢ zero
near_free free v h z = not_both h (ap (λ (x : ℕ). has x v) z ∙ has-empty v)
