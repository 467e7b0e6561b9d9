-- What can be said of the first n rows of a file: the list of them, and the lowest that passes a test.
use Rattle.std.specs.Prelude.{ℕ, zero, suc, Bool, cond, List, [], ◌∷◌, ◌++◌, Option, Some, None}

-- the first n of f, as a list
unfoldable pub list_to : (ℕ → ℕ) → ℕ → List ℕ
list_to f zero = []
list_to f (suc n) = list_to f n ++ (f n ∷ [])

-- the lowest number below n that passes
abbrev pub or_at : Option ℕ → Bool → ℕ → Option ℕ
or_at (Some i) b n = Some i
or_at None b n = cond b (Some n) None

unfoldable pub lowest_to : (ℕ → Bool) → ℕ → Option ℕ
lowest_to f zero = None
lowest_to f (suc n) = or_at (lowest_to f n) (f n) n
