-- What soundness says, part by part, and the way back; the desks together hold the used places. Assumes nothing.
use Prim.Native.Nat.{ℕ, zero, suc, ◌+◌, ◌≤◌, ◌<◌}
use mathlib.Core.Path.{◌≡◌, refl, sym}
use mathlib.Core.Logic.{inl, inr}
use mathlib.Core.Bool.{Bool, true, not, ◌&&◌, ◌||◌}
use mathlib.Core.List.{List}
use native.Mathlib.Omega.{arith}
use native.Mathlib.Decide.{dec_lt}
use lib.Dec.{eqb, leb, ltb}
use borrow.Author.Tests.{leb-true, le-leb, ltb-true, lt-ltb, eqb-true, eq-eqb, ne_eqb, not-true}
use Rattle.sets.specs.Limits.{most_desks, most_held, most_places, most_rows, most_values}
use Rattle.theory.specs.Pairings.{at}
use Rattle.sets.specs.Sets.{within}
use Rattle.sets.specs.Rows.{rows_of}
use Rattle.sets.proofs.Bools.{and_left, and_right, and_both, or_cases, or_left, or_right, true_or_false, not_both}
use Rattle.sheet.specs.declared.Sheet.{Sheet}
use Rattle.sheet.specs.Upto.{count_to, all_to, sum_to}
use Rattle.sheet.specs.Sheets.{owns, held, hides, owed, shaped, owned, empty, placed, shared, marked_right, sound}
use Rattle.sheet.proofs.UptoLaws.{count_yes, count_no, all-at, all_intro, sum_zero, sum_but_one}

pub record Sound (s : Sheet) : Type 0 where
  pub some_value : 1 ≤ s.d
  pub values : s.d ≤ most_values
  pub table : s.rows ≤ most_rows
  pub some_desk : 1 ≤ s.desks
  pub few_desks : s.desks ≤ most_desks
  pub places : s.used ≤ most_places
  pub owner : (i : ℕ) → i < s.used → at s.owners i < s.desks
  pub row : (i : ℕ) → i < s.used → within s.d (at (rows_of s.sets) i) ≡ true
  pub no_owner : (i : ℕ) → i < most_places → s.used ≤ i → at s.owners i ≡ zero
  pub no_row : (i : ℕ) → i < most_places → s.used ≤ i → at (rows_of s.sets) i ≡ zero
  pub share : (k : ℕ) → k < s.desks → held s k ≤ most_held
  pub promise : s.used + owed s ≤ most_places
  pub mark : (k n : ℕ) → k < most_desks → n < most_rows → hides s.marks k n ≡ true → (k < s.desks) × (n < s.rows)

-- ---- from the tests

and_two : (a b : Bool) → (a && b) ≡ true → (a ≡ true) × (b ≡ true)
and_two a b t = (and_left a b t, and_right a b t)

and_four : (a b c d : Bool) → (a && b && c && d) ≡ true → (a ≡ true) × (b ≡ true) × (c ≡ true) × (d ≡ true)
and_four a b c d t =
    let abc = and_two (a && b && c) d t in
    let ab = and_two (a && b) c abc.0 in
    (and_left a b ab.0, and_right a b ab.0, ab.1, abc.1)

module _ (s : Sheet) where
  -- what is asked of a place that is not used, and of a mark
  abbrev unused : ℕ → Bool
  unused i = ltb i s.used || empty s i

  abbrev mark_right : ℕ → ℕ → Bool
  mark_right k n = not (hides s.marks k n) || (ltb k s.desks && ltb n s.rows)

  owned_says : (i : ℕ) → owned s i ≡ true → (at s.owners i < s.desks) × (within s.d (at (rows_of s.sets) i) ≡ true)
  owned_says i e =
      let t = and_two (ltb (at s.owners i) s.desks) (within s.d (at (rows_of s.sets) i)) e in
      (ltb-true (at s.owners i) s.desks t.0, t.1)

  unused_says : (i : ℕ) → unused i ≡ true → s.used ≤ i → (at s.owners i ≡ zero) × (at (rows_of s.sets) i ≡ zero)
  unused_says i e h = elim (or_cases (ltb i s.used) (empty s i) e) [
    | inl l ↦ absurd (omega (arith, ltb-true i s.used l))
    | inr z ↦
        (let t = and_two (eqb (at s.owners i) 0) (eqb (at (rows_of s.sets) i) 0) z in
        (eqb-true (at s.owners i) 0 t.0, eqb-true (at (rows_of s.sets) i) 0 t.1))
  ]

  mark_says : (k n : ℕ) → mark_right k n ≡ true → hides s.marks k n ≡ true → (k < s.desks) × (n < s.rows)
  mark_says k n e h = elim (or_cases (not (hides s.marks k n)) (ltb k s.desks && ltb n s.rows) e) [
    | inl f ↦ absurd (not_both h (not-true (hides s.marks k n) f))
    | inr z ↦ (let t = and_two (ltb k s.desks) (ltb n s.rows) z in (ltb-true k s.desks t.0, ltb-true n s.rows t.1))
  ]

  pub sound_parts : sound s ≡ true → Sound s
  unfolding sound shaped placed shared marked_right
  sound_parts e =
      let parts = and_four (shaped s) (placed s) (shared s) (marked_right s) e in
      let numbers = leb 1 s.d && leb s.d most_values && leb s.rows most_rows && leb 1 s.desks in
      let desks-used = and_two (numbers && leb s.desks most_desks) (leb s.used most_places) parts.0 in
      let desks = and_two numbers (leb s.desks most_desks) desks-used.0 in
      let shape = and_four (leb 1 s.d) (leb s.d most_values) (leb s.rows most_rows) (leb 1 s.desks) desks.0 in
      let places = and_two (all_to (owned s) s.used) (all_to unused most_places) parts.1 in
      let shares = and_two (all_to (λ k. leb (held s k) most_held) s.desks) (leb (s.used + owed s) most_places) parts.2 in
      record {
        some_value = leb-true 1 s.d shape.0;
        values = leb-true s.d most_values shape.1;
        table = leb-true s.rows most_rows shape.2;
        some_desk = leb-true 1 s.desks shape.3;
        few_desks = leb-true s.desks most_desks desks.1;
        places = leb-true s.used most_places desks-used.1;
        owner = λ i h. (owned_says i (all-at (owned s) s.used places.0 i h)).0;
        row = λ i h. (owned_says i (all-at (owned s) s.used places.0 i h)).1;
        no_owner = λ i h l. (unused_says i (all-at unused most_places places.1 i h) l).0;
        no_row = λ i h l. (unused_says i (all-at unused most_places places.1 i h) l).1;
        share = λ k h. leb-true (held s k) most_held (all-at (λ j. leb (held s j) most_held) s.desks shares.0 k h);
        promise = leb-true (s.used + owed s) most_places shares.1;
        mark = λ k n h l. mark_says k n (all-at (mark_right k) most_rows (all-at (λ j. all_to (mark_right j) most_rows) most_desks parts.3 k h) n l);
      }

  -- ---- and back

  says_unused : Sound s → (i : ℕ) → i < most_places → unused i ≡ true
  says_unused p i h = elim (dec_lt i s.used) [
    | yes l ↦ or_left _ (empty s i) (lt-ltb i s.used l)
    | no l ↦
        (let no_owner = eq-eqb (at s.owners i) 0 (p.no_owner i h (omega arith)) in
        let no_row = eq-eqb (at (rows_of s.sets) i) 0 (p.no_row i h (omega arith)) in
        or_right (ltb i s.used) _ (and_both _ _ no_owner no_row))
  ]

  says_mark : Sound s → (k n : ℕ) → k < most_desks → n < most_rows → mark_right k n ≡ true
  says_mark p k n h l = elim (true_or_false (hides s.marks k n)) [
    | inl e ↦
        (let t = p.mark k n h l e in
        or_right (not (hides s.marks k n)) _ (and_both _ _ (lt-ltb k s.desks t.0) (lt-ltb n s.rows t.1)))
    | inr e ↦ rw e
  ]

  pub parts_sound : Sound s → sound s ≡ true
  unfolding sound shaped placed shared marked_right
  parts_sound p =
      rw (
        le-leb 1 s.d p.some_value,
        le-leb s.d most_values p.values,
        le-leb s.rows most_rows p.table,
        le-leb 1 s.desks p.some_desk,
        le-leb s.desks most_desks p.few_desks,
        le-leb s.used most_places p.places,
        all_intro (owned s) s.used (λ i h. and_both _ _ (lt-ltb (at s.owners i) s.desks (p.owner i h)) (p.row i h)),
        all_intro unused most_places (says_unused p),
        all_intro (λ k. leb (held s k) most_held) s.desks (λ k h. le-leb (held s k) most_held (p.share k h)),
        le-leb (s.used + owed s) most_places p.promise,
        all_intro (λ k. all_to (mark_right k) most_rows) most_desks (λ k h. all_intro (mark_right k) most_rows (λ n l. says_mark p k n h l)),
      )

-- ---- the desks together

-- each of the places below n is one desk's
sum_of_counts : (owners : List ℕ) (desks n : ℕ) → ((i : ℕ) → i < n → at owners i < desks) → sum_to (λ k. count_to (owns owners k) n) desks ≡ n
unfolding count_to
sum_of_counts owners desks zero p = sum_zero (λ k. zero) desks (λ k h. refl)
sum_of_counts owners desks (suc n) p =
    omega (
      arith,
      sum_but_one (λ k. count_to (owns owners k) (suc n)) (λ k. count_to (owns owners k) n) desks (at owners n) (p n (omega arith))
          (λ j h ne. count_no (owns owners j) n (ne_eqb (at owners n) j (λ q. ne (sym q)))),
      count_yes (owns owners (at owners n)) n (eq-eqb (at owners n) (at owners n) refl),
      sum_of_counts owners desks n (λ i h. p i (omega arith)),
    )

pub used_is_held : (s : Sheet) → ((i : ℕ) → i < s.used → at s.owners i < s.desks) → sum_to (held s) s.desks ≡ s.used
used_is_held s p = sum_of_counts s.owners s.desks s.used p
