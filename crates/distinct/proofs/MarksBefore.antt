-- The marks before a place: one more place, marked or not. Assumes nothing.
use Prim.Native.Nat.{ℕ, zero, suc, ◌+◌, ◌≤◌}
use mathlib.Core.Path.{◌≡◌, refl, ap}
use mathlib.Core.Bool.{Bool, true, false, true≢false, false≢true}
use mathlib.Core.List.{List, [], ◌∷◌}
use native.Mathlib.Nat.{not-suc-le-zero, le_of_suc-le-suc}
use native.Mathlib.Numerals.{add-one}
use native.Mathlib.Omega.{arith}
use lib.ListN.{length, set}
use Rattle.theory.specs.Kept.{marked}
use Rattle.distinct.specs.Code.Steps.{before}

pub length_before : (n : ℕ) (ms : List Bool) → length (before n ms) ≡ length ms
unfolding before
length_before n [] = refl
length_before zero (m ∷ ms) = ap suc (length_before zero ms)
length_before (suc n) (m ∷ ms) = ap suc (length_before n ms)

-- from place n on there is no mark
pub before_none : (n : ℕ) (ms : List Bool) (i : ℕ) → n ≤ i → marked (before n ms) i ≡ false
unfolding before
before_none n [] i h = refl
before_none zero (m ∷ ms) zero h = refl
before_none zero (m ∷ ms) (suc i) h = before_none zero ms i (omega arith)
before_none (suc n) (m ∷ ms) zero h = absurd (not-suc-le-zero h)
before_none (suc n) (m ∷ ms) (suc i) h = before_none n ms i (le_of_suc-le-suc h)

pub before-all : (n : ℕ) (ms : List Bool) → length ms ≤ n → before n ms ≡ ms
unfolding before
before-all n [] h = refl
before-all zero (m ∷ ms) h = absurd (not-suc-le-zero h)
before-all (suc n) (m ∷ ms) h = ap (λ (l : List Bool). m ∷ l) (before-all n ms (le_of_suc-le-suc h))

marked_next : (n : ℕ) (ms : List Bool) → marked ms n ≡ true → set (before n ms) n true ≡ before (suc n) ms
unfolding before
marked_next n [] t = refl
marked_next zero (true ∷ ms) t = refl
marked_next zero (false ∷ ms) t = absurd (false≢true t)
marked_next (suc n) (m ∷ ms) t = ap (λ (l : List Bool). m ∷ l) (marked_next n ms t)

unmarked_next : (n : ℕ) (ms : List Bool) → marked ms n ≡ false → before n ms ≡ before (suc n) ms
unfolding before
unmarked_next n [] f = refl
unmarked_next zero (true ∷ ms) f = absurd (true≢false f)
unmarked_next zero (false ∷ ms) f = refl
unmarked_next (suc n) (m ∷ ms) f = ap (λ (l : List Bool). m ∷ l) (unmarked_next n ms f)

pub before-marked : (n : ℕ) (ms : List Bool) → marked ms n ≡ true → set (before n ms) n true ≡ before (n + 1) ms
before-marked n ms t = rw add-one (marked_next n ms t)

pub before_unmarked : (n : ℕ) (ms : List Bool) → marked ms n ≡ false → before n ms ≡ before (n + 1) ms
before_unmarked n ms f = rw add-one (unmarked_next n ms f)
