-- What can be said of the numbers below n: how many pass a test, whether all do, a sum, and the rows at those that pass.
use Rattle.std.specs.Prelude.{ℕ, zero, suc, ◌+◌, Bool, true, cond, ◌&&◌, List, [], ◌∷◌, ◌++◌}
use Rattle.theory.specs.Pairings.{at}

-- how many pass
unfoldable pub count_to : (ℕ → Bool) → ℕ → ℕ
count_to f zero = zero
count_to f (suc n) = cond (f n) (suc (count_to f n)) (count_to f n)

-- all pass
unfoldable pub all_to : (ℕ → Bool) → ℕ → Bool
all_to f zero = true
all_to f (suc n) = all_to f n && f n

unfoldable pub sum_to : (ℕ → ℕ) → ℕ → ℕ
sum_to g zero = zero
sum_to g (suc n) = sum_to g n + g n

-- the rows at the places that pass, in order
unfoldable pub those : (ℕ → Bool) → List ℕ → ℕ → List ℕ
those f rows zero = []
those f rows (suc n) = those f rows n ++ cond (f n) (at rows n ∷ []) []
