-- Which table rows each desk hides after a row is hidden or a desk's marks are taken off, and that the marks keep their number. Assumes nothing.
use Prim.Native.Nat.{ℕ, zero, suc, ◌+◌, ◌*◌, ◌%◌, ◌≤◌, ◌<◌}
use mathlib.Core.Path.{◌≡◌, refl, ap, ◌∙◌}
use mathlib.Core.Logic.{◌≢◌, ◌⊎◌, inl, inr}
use mathlib.Core.Bool.{Bool, true, false, ◌||◌, or-false}
use mathlib.Core.List.{List, [], ◌∷◌}
use native.Mathlib.Decide.{ℕ_discrete, dec_lt}
use native.Mathlib.Omega.{arith}
use lib.Bits.{bit_or}
use lib.ListN.{length, set, length-set, replicate}
use lib.Seq.{paste, paste-zero}
use Rattle.std.proofs.Common.{add-one}
use Rattle.std.proofs.lemmas.List.Edits.{fill_from_more}
use borrow.Author.Tests.{ne_eqb}
use Rattle.sets.specs.Limits.{most_desks, most_rows, word_bits}
use Rattle.theory.specs.Pairings.{at}
use Rattle.theory.proofs.Places.{at_same, at_other}
use Rattle.sets.specs.Sets.{has, single}
use Rattle.sets.proofs.Values.{has-or, has-single, has-empty, with_new}
use Rattle.sheet.specs.declared.Sheet.{Sheet}
use Rattle.sheet.specs.Sheets.{Whole, word, hides, mark_words, all_marks}
use Rattle.sheet.specs.Changes.{hide, hiding, wiped, showing}

-- ---- a row is hidden

pub length-hide : (marks : List ℕ) (k n : ℕ) → length (hide marks k n) ≡ length marks
unfolding hide
length-hide marks k n = length-set marks (word k n) (bit_or (at marks (word k n)) (single (n % word_bits)))

-- another value of a set that gets one more
with_other : (a v u : ℕ) → v ≢ u → has (bit_or a (single v)) u ≡ has a u
with_other a v u ne = has-or a (single v) u ∙ ap (λ (b : Bool). has a u || b) (has-single v u ∙ ne_eqb v u ne) ∙ or-false (has a u)

module _ (marks : List ℕ) (k n : ℕ) (long : length marks ≡ all_marks) (hk : k < most_desks) (hn : n < most_rows) where
  there : at (hide marks k n) (word k n) ≡ bit_or (at marks (word k n)) (single (n % word_bits))
  unfolding hide
  there = at_same marks (word k n) (bit_or (at marks (word k n)) (single (n % word_bits))) (omega arith)

  pub hides_same : hides (hide marks k n) k n ≡ true
  unfolding hides
  hides_same = ap (λ (x : ℕ). has x (n % word_bits)) there ∙ with_new (at marks (word k n)) (n % word_bits)

  -- in one word, two marks stand at different values
  apart : (j m : ℕ) → m < most_rows → (j ≢ k) ⊎ (m ≢ n) → word j m ≡ word k n → n % word_bits ≢ m % word_bits
  apart j m hm (inl ne) e q = ne (omega arith)
  apart j m hm (inr ne) e q = ne (omega arith)

  -- other desks, and other rows of this desk
  pub hides_other : (j m : ℕ) → m < most_rows → (j ≢ k) ⊎ (m ≢ n) → hides (hide marks k n) j m ≡ hides marks j m
  unfolding hides hide
  hides_other j m hm ne = elim (ℕ_discrete (word j m) (word k n)) [
    | yes e ↦
        rw e
        (ap (λ (x : ℕ). has x (m % word_bits)) there ∙ with_other (at marks (word k n)) (n % word_bits) (m % word_bits) (apart j m hm ne e))
    | no away ↦
        ap (λ (x : ℕ). has x (m % word_bits)) (at_other marks (word k n) (bit_or (at marks (word k n)) (single (n % word_bits))) (word j m) away)
  ]

-- ---- words are wiped

pub length-wiped : (marks : List ℕ) (first n : ℕ) → length (wiped marks first n) ≡ length marks
unfolding wiped
length-wiped marks first zero = refl
length-wiped marks first (suc n) = length-set (wiped marks first n) (first + n) zero ∙ length-wiped marks first n

at_cleared : (l : List ℕ) (i : ℕ) → at (set l i zero) i ≡ zero
at_cleared [] i = refl
at_cleared (x ∷ l) zero = refl
at_cleared (x ∷ l) (suc i) = at_cleared l i

pub at-wiped : (marks : List ℕ) (first n i : ℕ) → first ≤ i → i < first + n → at (wiped marks first n) i ≡ zero
unfolding wiped
at-wiped marks first zero i a b = absurd (omega arith)
at-wiped marks first (suc n) i a b = elim (ℕ_discrete i (first + n)) [
  | yes e ↦ rw e (at_cleared (wiped marks first n) (first + n))
  | no ne ↦ at_other (wiped marks first n) (first + n) zero i ne ∙ at-wiped marks first n i a (omega arith)
]

pub at_unwiped : (marks : List ℕ) (first n i : ℕ) → (i < first) ⊎ (first + n ≤ i) → at (wiped marks first n) i ≡ at marks i
unfolding wiped
at_unwiped marks first zero i out = refl
at_unwiped marks first (suc n) i (inl h) = at_other (wiped marks first n) (first + n) zero i (omega arith) ∙ at_unwiped marks first n i (inl h)
at_unwiped marks first (suc n) i (inr h) =
    at_other (wiped marks first n) (first + n) zero i (omega arith) ∙ at_unwiped marks first n i (inr (omega arith))

-- they are overwritten as a whole
pub wiped-replicate : (marks : List ℕ) (first n : ℕ) → first + n ≤ length marks → wiped marks first n ≡ paste marks first (replicate n zero) n
unfolding wiped
wiped-replicate marks first zero h = paste-zero marks first []
wiped-replicate marks first (suc n) h =
    ap (λ (l : List ℕ). set l (first + n) zero) (wiped-replicate marks first n (omega arith))
    ∙ simp add-one at (fill_from_more marks first n zero (omega arith))

-- ---- a desk's marks are taken off

module _ (marks : List ℕ) (k m : ℕ) (hm : m < most_rows) where
  pub wiped_same : hides (wiped marks (k * mark_words) mark_words) k m ≡ false
  unfolding hides
  wiped_same =
      ap (λ (x : ℕ). has x (m % word_bits)) (at-wiped marks (k * mark_words) mark_words (word k m) (omega arith) (omega arith))
      ∙ has-empty (m % word_bits)

  outside : (j : ℕ) → j ≢ k → (word j m < k * mark_words) ⊎ (k * mark_words + mark_words ≤ word j m)
  outside j ne = elim (dec_lt j k) [ yes l ↦ inl (omega arith) | no l ↦ inr (omega arith) ]

  pub wiped_other : (j : ℕ) → j ≢ k → hides (wiped marks (k * mark_words) mark_words) j m ≡ hides marks j m
  unfolding hides
  wiped_other j ne = ap (λ (x : ℕ). has x (m % word_bits)) (at_unwiped marks (k * mark_words) mark_words (word j m) (outside j ne))

-- ---- the sheet stays whole

pub whole_hiding : {s : Sheet} (k n : ℕ) → Whole s → Whole (hiding s k n)
whole_hiding {s} k n w =
    record { marks_long = length-hide s.marks k n ∙ w.marks_long; sets_long = w.sets_long; owners_long = w.owners_long }

pub whole_showing : {s : Sheet} (k : ℕ) → Whole s → Whole (showing s k)
whole_showing {s} k w =
    record { marks_long = length-wiped s.marks (k * mark_words) mark_words ∙ w.marks_long; sets_long = w.sets_long; owners_long = w.owners_long }
