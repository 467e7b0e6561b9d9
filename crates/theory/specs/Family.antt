-- Choices, value sets and families (the paper's Definitions 2.3 to 2.5; the request, 'Cells, choices and families').
-- A row is a number read as a set of values, and d is how many values the column has.
use Rattle.std.specs.Prelude.{ℕ, zero, suc, ◌≡◌, ◌↔◌, true, cond}
use mathlib.Core.List.{List, [], ◌∷◌, ◌++◌, map, flat_map, Memᴰ}
use Rattle.sets.specs.Sets.{has, single, union, within}

-- the values of row r below d, in ascending order
unfoldable pub values : ℕ → ℕ → List ℕ
values zero r = []
values (suc d) r = cond (has r d) (values d r ++ d ∷ []) (values d r)

-- all lists that take one number from each of the given lists
unfoldable pub selections : List (List ℕ) → List (List ℕ)
selections [] = [] ∷ []
selections (l ∷ ls) = flat_map (λ (x : ℕ). map (λ (c : List ℕ). x ∷ c) (selections ls)) l

-- Definition 2.3: 'A choice takes one value from each row.'
unfoldable pub choices : ℕ → List ℕ → List (List ℕ)
choices d rows = selections (map (values d) rows)

-- Definition 2.4: 'Its value set is the set of values taken.'
unfoldable pub value_set : List ℕ → ℕ
value_set choice = union (map single choice)

-- Definition 2.5: 'The family is the set of all value sets.' 'A list with no rows has an empty family.'
unfoldable pub family : ℕ → List ℕ → List ℕ
family d [] = []
family d (r ∷ rows) = map value_set (choices d (r ∷ rows))

-- the two lists of rows allow exactly the same sets of true values
abbrev pub SameFamily : ℕ → List ℕ → List ℕ → Type 0
SameFamily d xs ys = (s : ℕ) → Memᴰ s (family d xs) ↔ Memᴰ s (family d ys)

-- every one of them is a row of the column: not empty, and no value d or above
abbrev pub Rows : ℕ → List ℕ → Type 0
Rows d rows = (r : ℕ) → Memᴰ r rows → within d r ≡ true
