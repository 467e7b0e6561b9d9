-- The paper's Example 2.1, by the definitions of redundant and necessary rows: of {a}, {b} and {ab} only the last can be spared. Assumes nothing.
use Prim.Native.Nat.{ℕ}
use mathlib.Core.Path.{◌≡◌, refl}
use mathlib.Core.Logic.{inl, inr}
use mathlib.Core.Bool.{true, false}
use mathlib.Core.List.Memᴰ
use mathlib.Core.List.{List, [], ◌∷◌, flat_map, Memᴰ}
use native.Mathlib.Omega.{arith}
use Rattle.sets.specs.Sets.{has, union}
use Rattle.theory.specs.Family.{values, selections, choices, value_set, family}
use Rattle.theory.specs.Kept.{pick}
use Rattle.theory.specs.Necessary.{Redundant, Necessary}
use Rattle.theory.specs.Samples.{a, ab}

abbrev b : ℕ
b = 0b10

abbrev rows : List ℕ
rows = a ∷ b ∷ ab ∷ []

twice_once : (x s : ℕ) → Memᴰ s (x ∷ x ∷ []) → Memᴰ s (x ∷ [])
twice_once x s m = elim (Memᴰ.cases_cons m) [ inl e ↦ Memᴰ.head e | inr k ↦ k ]

-- 'η3 = [a, b] is redundant in Φ with respect to Φ - {η3}'
pub example_redundant : Redundant 2 (true ∷ true ∷ false ∷ []) rows
unfolding flat_map has union values selections choices value_set family pick
example_redundant s = (twice_once ab s, λ m. Memᴰ.tail m)

not_twice : (x s : ℕ) → (s ≡ x → ⊥) → Memᴰ s (x ∷ x ∷ []) → ⊥
not_twice x s n m = elim (Memᴰ.cases_cons (twice_once x s m)) [ inl e ↦ n e | inr k ↦ Memᴰ.not-nil k ]

-- 'In Example 2.1, η1 and η2 are necessary in Φ': without them {b}, or {a}, would be a set of the family
pub example_necessary : Necessary 2 rows 0 × Necessary 2 rows 1
unfolding flat_map has union values selections choices value_set family
example_necessary = (
  λ same. not_twice ab b (λ e. omega arith) ((same b).1 (Memᴰ.tail (Memᴰ.head refl))),
  λ same. not_twice ab a (λ e. omega arith) ((same a).1 (Memᴰ.head refl)),
)
