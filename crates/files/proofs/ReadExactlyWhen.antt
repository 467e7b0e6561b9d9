-- When a lesson file is refused, with which number, and what is returned with it (the request, 'Lesson files'). Assumes nothing.
use Prim.Native.Nat.{ℕ, ◌+◌, ◌*◌, ◌<◌}
use mathlib.Core.Path.{◌≡◌, refl, ap, ap₂, ◌∙◌}
use mathlib.Core.Logic.{◌↔◌, ◌≢◌, inl, inr}
use mathlib.Core.Bool.{Bool, true, false, not, ◌&&◌, or-false}
use mathlib.Core.List.Memᴰ
use mathlib.Core.List.{List, [], ◌∷◌, map}
use native.Mathlib.Omega.{arith}
use lib.Dec.{ltb}
use lib.ListN.{length}
use borrow.Author.Tests.{not-true, not-false, ltb-true, le-ltb}
use Rattle.std.specs.Prelude.{Result, Ok, Err}
use Rattle.sets.specs.Sets.{below}
use Rattle.sets.proofs.Bools.{true_or_false, not_both}
use Rattle.refusals.specs.declared.Refusal.TheVariants.{RowOver}
use Rattle.refusals.specs.Refusals.{number}
use Rattle.refusals.specs.Cases.{Case, ◌names◌, found_at, applies, First}
use Rattle.refusals.proofs.CaseNumbers.{Numbered}
use Rattle.refusals.proofs.FirstInOrder.{first_exactly_when, own_refusal, none_given}
use Rattle.refusals.proofs.RowsReturned.{found_at_lem, no_row}
use Rattle.refusals.specs.declared.Refusal.{Refusal}
use Rattle.files.specs.Files.{values_in, count_in, row_in}
use Rattle.files.specs.FileCases.{front_cases, row_over, row_cases, place_cases, read_cases}
use Rattle.refusals.specs.Refusals.{number_of, row_of}
use Rattle.files.specs.Reading.{values_of, count_of, read_answer}
use Rattle.files.proofs.RowLaws.{lowest_says}

-- a refusal's d and T
none_returned : (l : Result (ℕ × ℕ) Refusal) → number_of l ≢ 0 → (values_of l ≡ 0) × (count_of l ≡ 0)
none_returned (Ok (d, t)) ne = absurd (ne refl)
none_returned (Err r) ne = (refl, refl)

-- no number is both below and above another
not_both_ways : (m n : ℕ) → (ltb m n && ltb n m) ≡ false
not_both_ways m n = elim (true_or_false (ltb m n)) [
  | inl below ↦ rw (below, le-ltb n m (omega (arith, ltb-true m n below))) refl
  | inr not-below ↦ rw not-below refl
]

module _ (file : List ℕ) (places : ℕ) where
  abbrev answer : Result (ℕ × ℕ) Refusal
  answer = read_answer file places

  abbrev accepts : Result (ℕ × ℕ) Refusal
  accepts = Ok (values_in file, count_in file)

  -- '29 .. tried after 25 and before 26'; '27 is withdrawn'
  pub tried_in_order : map (λ (c : Case). number c.refusal) (read_cases file places)
      ≡ 20 ∷ 21 ∷ 22 ∷ 23 ∷ 24 ∷ 25 ∷ 29 ∷ 26 ∷ 28 ∷ []
  unfolding front_cases row_cases
  tried_in_order = refl

  numbered : Numbered (read_cases file places)
  unfolding front_cases row_cases
  numbered = record { no_zero = refl; once = (refl, (refl, (refl, (refl, (refl, (refl, (refl, (refl, (refl, tt))))))))) }

  -- a refusal is given exactly when its case applies and none that is tried before it does
  pub read_exactly_when : (n : ℕ) → 0 < n → (number_of (read_answer file places) ≡ n) ↔ First (read_cases file places) n
  unfolding read_answer
  read_exactly_when = first_exactly_when Err number_of (λ r. refl) accepts refl (read_cases file places) numbered

  -- 25 and 29 exclude each other: no file has both too few bytes and too many
  pub not_cut_and_long : (applies (read_cases file places) 25 && applies (read_cases file places) 29) ≡ false
  unfolding applies front_cases row_cases
  not_cut_and_long =
      let due = 8 + 8 * count_in file in
      ap₂ (λ (a b : Bool). a && b) (or-false (ltb (length file) due)) (or-false (ltb due (length file))) ∙ not_both_ways (length file) due

  -- 'Accepted: d and T are returned'
  pub accepted_returns : number_of answer ≡ 0 → (values_of answer ≡ values_in file) × (count_of answer ≡ count_in file) × (row_of answer ≡ 0)
  unfolding read_answer
  accepted_returns e =
      let read = (none_given Err number_of (λ r. refl) accepts refl (read_cases file places) numbered e).1 in
      (ap values_of read, ap count_of read, ap row_of read)

  -- 'A refusal returns its number, a row number .. and 0 for d and T'
  pub refused_returns : number_of answer ≢ 0 → (values_of answer ≡ 0) × (count_of answer ≡ 0)
  refused_returns = none_returned answer

  -- '26 a row has a value d or above (the lowest such row is returned)'
  pub row_over_returns : number_of answer ≡ 26
      → (row_of answer < count_in file)
      × (below (values_in file) (row_in file (row_of answer)) ≡ false)
      × ((j : ℕ) → j < row_of answer → below (values_in file) (row_in file j) ≡ true)
  unfolding read_answer row_cases
  row_over_returns e =
      let member = Memᴰ.append_left (place_cases file places) (Memᴰ.append_right (front_cases file) (Memᴰ.head refl)) in
      let own = own_refusal Err number_of (λ r. refl) accepts refl (read_cases file places) numbered (row_over file names RowOver) member e in
      let i = found_at (row_over file) in
      let lowest = lowest_says (λ j. not (below (values_in file) (row_in file j))) (count_in file) i (found_at_lem (row_over file) own.0) in
      rw (ap row_of own.1) (
        lowest.inside,
        not-true (below (values_in file) (row_in file i)) lowest.passes,
        λ j h. not-false (below (values_in file) (row_in file j)) (lowest.before j h),
      )

  -- 'a row number (0 except for 26)'
  never_2 : applies (read_cases file places) 2 ≡ false
  unfolding applies front_cases row_cases
  never_2 = refl

  pub no_row_returns : number_of answer ≢ 26 → row_of answer ≡ 0
  unfolding read_answer
  no_row_returns = no_row Err number_of (λ r. refl) accepts row_of (λ r. refl) refl (read_cases file places)
      (λ e. not_both ((read_exactly_when 2 (omega arith)).0 e).0 never_2)
