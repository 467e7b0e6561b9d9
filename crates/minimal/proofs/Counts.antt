-- A proper subset has fewer values; one more mark makes one more marked row. Assumes nothing.
use Prim.Native.Nat.{ℕ, zero, suc, ◌/◌, ◌%◌, ◌≤◌, ◌<◌}
use mathlib.Core.Path.{◌≡◌, refl, sym, ap, ◌∙◌}
use mathlib.Core.Logic.{◌≢◌, inl, inr}
use mathlib.Core.Bool.{Bool, true, false, not, true≢false}
use mathlib.Core.List.{List, [], ◌∷◌}
use native.Mathlib.Nat.{mod-lt, zero-lt-suc, not-suc-le-zero, le_of_suc-le-suc}
use native.Mathlib.Decide.{ℕ_discrete}
use native.Mathlib.Omega.{arith}
use lib.Arith.{bin_ind}
use lib.Count.{ones, ones_step}
use lib.Dec.{eqb}
use lib.ListN.{length, set}
use borrow.Author.Tests.{eqb-true, eqb-false, not-true}
use Rattle.sets.specs.Sets.{has, subset, proper}
use Rattle.sets.proofs.Bools.{and_right, true_or_false, not_both}
use Rattle.sets.proofs.Values.{has-empty, has-zero, has-suc, set_antisym}
use Rattle.sets.proofs.Subsets.{subset-has, proper-subset}
use Rattle.theory.specs.Kept.{marked, pick}

-- ---- fewer values

abbrev Inside : ℕ → ℕ → Type 0
Inside a b = (v : ℕ) → has a v ≡ true → has b v ≡ true

low_le : (a b : ℕ) → Inside a b → a % 2 ≤ b % 2
low_le a b f = elim (true_or_false (has a zero)) [
  | inl e ↦ let one : b % 2 ≡ 1 = eqb-true (b % 2) 1 (sym (has-zero b) ∙ f zero e) in omega (arith, mod-lt a (zero-lt-suc 1))
  | inr e ↦ let other : a % 2 ≢ 1 = eqb-false (a % 2) 1 (sym (has-zero a) ∙ e) in omega (arith, mod-lt a (zero-lt-suc 1))
]

fewer : (b a : ℕ) → Inside a b → a ≢ b → ones a < ones b
fewer =
    bin_ind (λ (b : ℕ). (a : ℕ) → Inside a b → a ≢ b → ones a < ones b)
    (λ a f ne. absurd (ne (set_antisym a zero f (λ v h. absurd (not_both h (has-empty v)))))) step
  where
    step : (b : ℕ) → ((a : ℕ) → Inside a (b / 2) → a ≢ b / 2 → ones a < ones (b / 2)) → (a : ℕ) → Inside a b → a ≢ b → ones a < ones b
    step b half a f ne = elim (ℕ_discrete (a / 2) (b / 2)) [
      | yes e ↦
          let other : a % 2 ≢ b % 2 = λ d. ne (omega (arith, e, d)) in
          let same : ones (a / 2) ≡ ones (b / 2) = ap ones e in
          omega (arith, ones_step a, ones_step b, low_le a b f)
      | no d ↦ omega (arith, ones_step a, ones_step b, low_le a b f, half (a / 2) (λ v h. sym (has-suc b v) ∙ f (suc v) (has-suc a v ∙ h)) d)
    ]

pub proper_fewer : (a b : ℕ) → proper a b ≡ true → ones a < ones b
unfolding proper
proper_fewer a b e = fewer b a (subset-has a b (proper-subset a b e)) (eqb-false a b (not-true (eqb a b) (and_right (subset a b) (not (eqb a b)) e)))

pub some_ones : (a : ℕ) → a ≢ zero → zero < ones a
some_ones a ne = omega (arith, fewer a zero (λ v h. absurd (not_both h (has-empty v))) (λ e. ne (sym e)))

-- ---- marked rows

pub marked-most : (ms : List Bool) (rows : List ℕ) → length (pick ms rows) ≤ length rows
unfolding pick
marked-most [] rows = omega arith
marked-most (m ∷ ms) [] = omega arith
marked-most (true ∷ ms) (r ∷ rows) = let h : length (pick ms rows) ≤ length rows = marked-most ms rows in omega arith
marked-most (false ∷ ms) (r ∷ rows) = let h : length (pick ms rows) ≤ length rows = marked-most ms rows in omega arith

pub marked_more : (ms : List Bool) (rows : List ℕ) (i : ℕ) → i < length ms → i < length rows → marked ms i ≡ false
    → length (pick (set ms i true) rows) ≡ suc (length (pick ms rows))
unfolding pick
marked_more [] rows i h l e = absurd (not-suc-le-zero h)
marked_more (m ∷ ms) [] i h l e = absurd (not-suc-le-zero l)
marked_more (true ∷ ms) (r ∷ rows) zero h l e = absurd (true≢false e)
marked_more (false ∷ ms) (r ∷ rows) zero h l e = refl
marked_more (true ∷ ms) (r ∷ rows) (suc i) h l e = ap suc (marked_more ms rows i (le_of_suc-le-suc h) (le_of_suc-le-suc l) e)
marked_more (false ∷ ms) (r ∷ rows) (suc i) h l e = marked_more ms rows i (le_of_suc-le-suc h) (le_of_suc-le-suc l) e
