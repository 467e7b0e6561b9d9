-- Sets with and without a value in common;
-- the rows that have no value of `singles` are the clear ones, and those that differ from the row before are candidates. Assumes nothing.
use Prim.Native.Nat.{ℕ, zero, suc, ◌≤◌}
use mathlib.Core.Path.{◌≡◌, refl, sym, ap, ◌∙◌, subst}
use mathlib.Core.Logic.{◌≢◌, ◌⊎◌, inl, inr}
use mathlib.Core.Bool.{Bool, true, false, not}
use mathlib.Core.List.{List}
use native.Mathlib.Nat.{suc-ne-zero, suc_inj}
use native.Mathlib.Decide.{ℕ_discrete}
use native.Mathlib.Omega.{arith}
use lib.Bits.{bit_and}
use lib.Dec.{eqb}
use lib.ListN.{length}
use borrow.Author.Tests.{eqb-true, eqb-false, not-true, not-false}
use Rattle.sets.specs.Sets.{has, single, subset}
use Rattle.sets.proofs.Bools.{and_left, and_right, and_both, not_both}
use Rattle.sets.proofs.Values.{has-and, has-empty, has-single}
use Rattle.sets.proofs.Subsets.{subset-has}
use Rattle.sets.proofs.ValuesBelow.{some_value}
use Rattle.theory.specs.Pairings.{at}
use Rattle.minimal.specs.Code.Marking.{Singles, Clear, Repeats, Candidate}

-- ---- two sets

pub apart : (a b : ℕ) → bit_and a b ≡ zero → (v : ℕ) → has a v ≡ true → has b v ≡ true → ⊥
apart a b e v p q = not_both (has-and a b v ∙ and_both (has a v) (has b v) p q) (ap (λ (x : ℕ). has x v) e ∙ has-empty v)

pub common : (a b : ℕ) → bit_and a b ≢ zero → (v : ℕ) × (has a v ≡ true) × (has b v ≡ true)
common a b ne =
    let t = some_value (bit_and a b) ne in
    let both = sym (has-and a b t.0) ∙ t.1 in
    (t.0, and_left (has a t.0) (has b t.0) both, and_right (has a t.0) (has b t.0) both)

pub single_only : (u v : ℕ) → has (single u) v ≡ true → u ≡ v
single_only u v e = eqb-true u v (sym (has-single u v) ∙ e)

-- b answers whether a row meets the set s: `r` is the row as it was read, `a` as the list has it
module _ {b : Bool} {r a : ℕ} (s : ℕ) (read : r ≡ a) (answer : b ≡ not (eqb (bit_and r s) zero)) where
  pub read_meets : b ≡ not (eqb (bit_and a s) zero)
  read_meets = answer ∙ ap (λ (x : ℕ). not (eqb (bit_and x s) zero)) read

  pub meets_no : b ≡ false → bit_and a s ≡ zero
  meets_no e = eqb-true (bit_and a s) zero (not-false (eqb (bit_and a s) zero) (sym read_meets ∙ e))

  pub meets_yes : b ≡ true → bit_and a s ≢ zero
  meets_yes e = eqb-false (bit_and a s) zero (not-true (eqb (bit_and a s) zero) (sym read_meets ∙ e))

-- ---- clear rows

module _ (rows : List ℕ) (s : ℕ) (S : Singles rows (length rows) s) (r : ℕ) where
  pub apart_clear : bit_and r s ≡ zero → Clear rows r
  apart_clear e v h alone = apart r s e v h (S.all v alone)

  pub common_not_clear : bit_and r s ≢ zero → Clear rows r → ⊥
  common_not_clear ne clear = let t = common r s ne in clear t.0 t.1 (S.from t.0 t.2)

pub subset_clear : (rows : List ℕ) (a b : ℕ) → subset a b ≡ true → Clear rows b → Clear rows a
subset_clear rows a b e clear v h = clear v (subset-has a b e v h)

-- ---- candidates

pub repeats? : (rows : List ℕ) (j : ℕ) → Repeats rows j ⊎ (Repeats rows j → ⊥)
repeats? rows zero = inr (λ t. suc-ne-zero t.0 (sym t.1))
repeats? rows (suc i) = elim (ℕ_discrete (at rows i) (at rows (suc i))) [
  | yes e ↦ inl (i, refl, e)
  | no ne ↦ inr (λ t. ne (ap (at rows) (suc_inj t.1) ∙ t.2))
]

-- a clear row is a candidate, or one that stands before it and is equal is
pub leader : (rows : List ℕ) (j : ℕ) → Clear rows (at rows j) → (f : ℕ) × (f ≤ j) × (at rows f ≡ at rows j) × Candidate rows f
leader rows zero clear = (zero, omega arith, refl, record { clear = clear; new = λ t. suc-ne-zero t.0 (sym t.1) })
leader rows (suc i) clear = elim (ℕ_discrete (at rows i) (at rows (suc i))) [
  | yes e ↦ let t = leader rows i (subst (Clear rows) (sym e) clear) in (t.0, omega (arith, t.1), t.2 ∙ e, t.3)
  | no ne ↦ (suc i, omega arith, refl, record { clear = clear; new = λ t. ne (ap (at rows) (suc_inj t.1) ∙ t.2) })
]
