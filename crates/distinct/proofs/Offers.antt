-- One row more is passed by in a turn of offers: it has the other mark, or has got a seat, or none. Assumes nothing.
use Prim.Native.Nat.{ℕ, zero, suc, ◌+◌, ◌≤◌, ◌<◌}
use mathlib.Core.Path.{◌≡◌, refl, sym, ap, ◌∙◌, subst}
use mathlib.Core.Logic.{inl, inr}
use mathlib.Core.Bool.{Bool, true, false, beq, ◌||◌, true≢false, false≢true}
use mathlib.Core.List.{List, [], ◌∷◌}
use native.Mathlib.Nat.{le_refl}
use native.Mathlib.Omega.{arith}
use lib.ListN.{length, set, get_or}
use lib.Seq.{set-get_or}
use Rattle.sets.specs.Rows.{width, bits}
use Rattle.sets.proofs.Bools.{true_or_false, is_false, or_right}
use Rattle.theory.specs.Pairings.{at}
use Rattle.theory.specs.Kept.{marked, tries}
use Rattle.theory.proofs.NextRow.{tries_none, try-marked}
use Rattle.pairing.specs.declared.seats.Seating.{Seating}
use Rattle.pairing.specs.Code.Seats.{OfSeat}
use Rattle.pairing.proofs.SeatSteps.{seat_passed}
use Rattle.distinct.specs.Code.Steps.{before, Pairs, offered, marks_then}
use Rattle.distinct.proofs.MarksBefore.{length_before, before_none, before-all, before-marked, before_unmarked}
use Rattle.distinct.proofs.RowSteps.{pairs_marked, pairs_kept, pairs_passed, tried_more}

-- ---- two marks are the same, as the code tests it

pub marks_same : (a b : Bool) → beq a b ≡ true → a ≡ b
marks_same true true t = refl
marks_same true false t = absurd (false≢true t)
marks_same false true t = absurd (false≢true t)
marks_same false false t = refl

pub marks_other : (a b : Bool) → beq a b ≡ false → a ≡ b → ⊥
marks_other true true t e = true≢false t
marks_other true false t e = true≢false e
marks_other false true t e = false≢true e
marks_other false false t e = true≢false t

or_none : (a : Bool) → (a || false) ≡ a
or_none true = refl
or_none false = refl

-- ---- a turn of offers

-- the rows before n with the mark b have been offered seats, and the marks ms₀ have become ms
pub record Offering (b : Bool) (view : List ℕ) (ms₀ ms : List Bool) (n : ℕ) (s : Seating) (rows columns mates : List ℕ) : Type 0 where
  pub bound : n ≤ length view
  pub pairs : Pairs view (offered b n ms) s rows columns mates
  pub marks : ms ≡ marks_then b view n ms₀

pub offering_start : (b : Bool) {view : List ℕ} {ms : List Bool} {s : Seating} {rows columns mates : List ℕ}
    → Pairs view (offered b zero ms) s rows columns mates → Offering b view ms ms zero s rows columns mates
unfolding marks_then
offering_start true P = record { bound = omega arith; pairs = P; marks = refl }
offering_start false {view} {ms} P = record { bound = omega arith; pairs = P; marks = tries_none width view zero ms }

-- there are as many marks as rows
pub offering_long : (b : Bool) {view : List ℕ} {ms₀ ms : List Bool} {n : ℕ} {s : Seating} {rows columns mates : List ℕ}
    → Offering b view ms₀ ms n s rows columns mates → length ms ≡ length view
unfolding offered
offering_long true {ms = ms} {n = n} O = sym (length_before n ms) ∙ O.pairs.stands.fits
offering_long false O = O.pairs.stands.fits

pub offering_end : (b : Bool) {view : List ℕ} {ms₀ ms : List Bool} {n : ℕ} {s : Seating} {rows columns mates : List ℕ}
    → Offering b view ms₀ ms n s rows columns mates → length view ≤ n
    → (ms ≡ marks_then b view (length view) ms₀) × Pairs view ms s rows columns mates
unfolding offered marks_then
offering_end true {view} {ms₀} {ms} {n} {s} {rows} {columns} {mates} O h =
    (O.marks, subst (λ (l : List Bool). Pairs view l s rows columns mates) (before-all n ms (omega (arith, offering_long true O))) O.pairs)
offering_end false {view} {ms₀} {n = n} O h =
    let all : n ≡ length view = omega (arith, O.bound) in (O.marks ∙ ap (λ (k : ℕ). tries width view k zero ms₀) all, O.pairs)

module _ {view : List ℕ} {ms₀ ms : List Bool} {n : ℕ} {s : Seating} {rows columns mates : List ℕ} (h : n < length view) where
  -- row n has the other mark
  pub offering_other : (b : Bool) → Offering b view ms₀ ms n s rows columns mates → (marked ms n ≡ b → ⊥)
      → Offering b view ms₀ ms (n + 1) s rows columns mates
  unfolding offered marks_then
  offering_other true O other = record {
    bound = omega arith;
    pairs = subst (λ (l : List Bool). Pairs view l s rows columns mates) (before_unmarked n ms (is_false (marked ms n) other)) O.pairs;
    marks = O.marks;
  }
  offering_other false O other = record {
    bound = omega arith;
    pairs = O.pairs;
    marks = tried_more view ms₀ ms n ms O.marks (try-marked width view ms n there);
  }
    where
      there : marked ms n ≡ true
      there = elim (true_or_false (marked ms n)) [ inl t ↦ t | inr f ↦ absurd (other f) ]

  module _ {s' : Seating} {rows' columns' mates' : List ℕ} (A : OfSeat (at view n) s rows s' rows' columns' mates') where
    marked_more : Offering true view ms₀ ms n s rows columns mates → marked ms n ≡ true → Pairs view (before (n + 1) ms) s' rows' columns' mates'
    unfolding offered
    marked_more O same =
        subst (λ (l : List Bool). Pairs view l s' rows' columns' mates') (before-marked n ms same)
        (pairs_marked O.pairs h (before_none n ms n (le_refl n)) A)

    -- it has got a seat, and is marked
    pub offering_seated : (b : Bool) → Offering b view ms₀ ms n s rows columns mates → marked ms n ≡ b → s.used < s'.used
        → Offering b view ms₀ (set ms n true) (n + 1) s' rows' columns' mates'
    unfolding offered marks_then
    offering_seated true O same more =
        subst (λ (l : List Bool). Offering true view ms₀ l (n + 1) s' rows' columns' mates')
        (sym (ap (set ms n) (sym same) ∙ set-get_or ms n false))
        (record { bound = omega arith; pairs = marked_more O same; marks = O.marks })
    offering_seated false O same more =
        let k = pairs_kept O.pairs h same A more in
        record { bound = omega arith; pairs = k.0; marks = tried_more view ms₀ ms n (set ms n true) O.marks k.1 }

    -- it has got none
    pub offering_passed : (b : Bool) → Offering b view ms₀ ms n s rows columns mates → marked ms n ≡ b → s'.used ≤ s.used
        → Offering b view ms₀ ms (n + 1) s' rows' columns' mates'
    unfolding offered marks_then
    offering_passed true O same less = record { bound = omega arith; pairs = marked_more O same; marks = O.marks }
    offering_passed false O same less =
        let k = pairs_passed O.pairs h same A less in
        record { bound = omega arith; pairs = k.0; marks = tried_more view ms₀ ms n ms O.marks k.1 }

    -- r tells whether it has
    pub offering_told : (b : Bool) → Offering b view ms₀ ms n s rows columns mates → marked ms n ≡ b → (r : Bool) → (r ≡ true → s.used < s'.used)
        → (r ≡ false → s'.used ≤ s.used) → Offering b view ms₀ (set ms n (marked ms n || r)) (n + 1) s' rows' columns' mates'
    offering_told b O same true more less =
        rw (or_right (marked ms n) true refl) (offering_seated b O same (more refl))
    offering_told b O same false more less =
        rw (or_none (marked ms n), set-get_or ms n false) (offering_passed b O same (less refl))

-- no value is free: the rows from n on, k of them, are passed by
pub offering_full : (b : Bool) {view : List ℕ} {ms₀ ms : List Bool} (n k : ℕ) {s : Seating} {rows columns mates : List ℕ} → n + k ≡ length view
    → bits s.free ≡ zero → Offering b view ms₀ ms n s rows columns mates → Offering b view ms₀ ms (length view) s rows columns mates
offering_full b {view} {ms₀} {ms} n zero {s} {rows} {columns} {mates} e none O =
    subst (λ (m : ℕ). Offering b view ms₀ ms m s rows columns mates) (omega arith) O
offering_full b {view} {ms₀} {ms} n (suc k) {s} {rows} {columns} {mates} e none O = offering_full b (n + 1) k (omega arith) none next
  where
    here : n < length view
    here = omega arith

    next : Offering b view ms₀ ms (n + 1) s rows columns mates
    next = elim (true_or_false (beq (marked ms n) b)) [
      | inl t ↦ offering_passed here (seat_passed O.pairs.sits (inr none)) b O (marks_same (marked ms n) b t) (le_refl s.used)
      | inr f ↦ offering_other here b O (marks_other (marked ms n) b f)
    ]

-- ---- the turns

-- n turns are over: none, and the marked rows are next; theirs, and the others are next; or both
pub record Turned (n : ℕ) (view : List ℕ) (ms₀ ms : List Bool) (s : Seating) (rows columns mates : List ℕ) : Type 0 where
  pub marked_next : n ≡ 0 → Pairs view (offered true zero ms) s rows columns mates × (ms ≡ ms₀)
  pub others_next : n ≡ 1 → Pairs view (offered false zero ms) s rows columns mates × (ms ≡ ms₀)
  pub over : 2 ≤ n → ms ≡ tries width view (length view) zero ms₀

pub turn_begins : (n : ℕ) → n < 2 → {view : List ℕ} {ms₀ ms : List Bool} {s : Seating} {rows columns mates : List ℕ}
    → Turned n view ms₀ ms s rows columns mates → Pairs view (offered (get_or (true ∷ false ∷ []) n false) zero ms) s rows columns mates
turn_begins zero h T = (T.marked_next refl).0
turn_begins (suc zero) h T = (T.others_next refl).0
turn_begins (suc (suc n)) h T = absurd (omega arith)

pub turn_ends : (n : ℕ) → n < 2 → {view : List ℕ} {ms₀ ms : List Bool} {s : Seating} {rows columns mates : List ℕ}
    → Turned n view ms₀ ms s rows columns mates → {ms' : List Bool} {s' : Seating} {rows' columns' mates' : List ℕ}
    → (ms' ≡ marks_then (get_or (true ∷ false ∷ []) n false) view (length view) ms) × Pairs view ms' s' rows' columns' mates'
    → Turned (n + 1) view ms₀ ms' s' rows' columns' mates'
unfolding offered marks_then
turn_ends zero h T O = record {
  marked_next = λ e. absurd (omega arith);
  others_next = λ _. (O.1, O.0 ∙ (T.marked_next refl).1);
  over = λ e. absurd (omega arith);
}
turn_ends (suc zero) h {view} T O = record {
  marked_next = λ e. absurd (omega arith);
  others_next = λ e. absurd (omega arith);
  over = λ _. O.0 ∙ ap (tries width view (length view) zero) (T.others_next refl).1;
}
turn_ends (suc (suc n)) h T O = absurd (omega arith)
