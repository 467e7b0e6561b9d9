-- A walk through the values of a row, from the lowest on: what is left of the row is the set of the values to come.
use Rattle.std.specs.Prelude.{ℕ, zero, ◌<◌, ◌≡◌, true, Option, Some, None}
use Rattle.std.specs.Int.Count.{count_trailing_zeros}
use Rattle.sets.specs.declared.walk.ValuesLeft.{ValuesLeft}
use Rattle.sets.specs.Sets.{has, single, minus}
use Rattle.sets.specs.Rows.{width, bits}

-- v is the lowest value of the set a, and b is a without it
pub record Lowest (a v b : ℕ) : Type 0 where
  pub least : v ≡ count_trailing_zeros width a
  pub small : v < width
  pub there : has a v ≡ true
  pub rest : b ≡ minus a (single v)

-- a walk gives its lowest value, or ends with the empty set
abbrev pub TakesLowest : ValuesLeft → Option ℕ → ValuesLeft → Type 0
TakesLowest values None values' = (bits values.left ≡ zero) × (bits values'.left ≡ zero)
TakesLowest values (Some v) values' = Lowest (bits values.left) v (bits values'.left)
