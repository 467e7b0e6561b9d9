-- Sets with no value d or above: smaller than 2 ^ d, and the other way; a set that is not empty has a value. Assumes nothing.
use Prim.Native.Nat.{ℕ, zero, suc, ◌*◌, ◌/◌, ◌%◌, ◌^◌, ◌<◌, ◌≤◌}
use mathlib.Core.Path.{◌≡◌, refl, sym, ap, ◌∙◌, subst}
use mathlib.Core.Logic.{◌≢◌, ◌⊎◌, inl, inr}
use mathlib.Core.Bool.{true, false, not, ◌&&◌, false≢true}
use native.Mathlib.Nat.{not-suc-le-zero, le_of_suc-le-suc, div-eq_of_lt, lt_of_lt_of_le, div-lt_iff_lt-mul, pow-suc, zero-lt-suc}
use native.Mathlib.Decide.{dec_lt}
use native.Mathlib.Omega.{arith}
use lib.Arith.{bin_ind}
use lib.Bits.{bit_and}
use lib.Dec.{eqb}
use lib.Pow.{pow_mono, pow_pos, ones_lt}
use borrow.Author.Tests.{lt-ltb, ltb-true, eqb-false, eq-eqb, ne_eqb, not-true}
use Rattle.sets.specs.Sets.{has, all, subset, minus, below, within}
use Rattle.sets.proofs.Bools.{and_left, and_right, and_both, true_or_false, not_both, bool_ext}
use Rattle.sets.proofs.Values.{has-and, has-empty, has-zero, has-suc, minus_in, minus_out, set_ext}
use Rattle.sets.proofs.Subsets.{subset-has, has-subset}

-- ---- by numbers

pub less_below : (d r : ℕ) → r < 2 ^ d → below d r ≡ true
unfolding below
less_below d r h = lt-ltb r (2 ^ d) h

pub below_less : (d r : ℕ) → below d r ≡ true → r < 2 ^ d
unfolding below
below_less d r e = ltb-true r (2 ^ d) e

-- ---- by values

-- a value of a set below 2 ^ d is below d
pub has_less : (d r v : ℕ) → r < 2 ^ d → has r v ≡ true → v < d
unfolding has
has_less d r v h e = elim (dec_lt v d) [
  | yes l ↦ l
  | no n ↦ absurd (false≢true (sym (ap (λ (x : ℕ). eqb (x % 2) 1) (div-eq_of_lt (lt_of_lt_of_le h (pow_mono (omega (arith, n)))))) ∙ e))
]

-- a set whose values are all below d is below 2 ^ d
pub less_has : (d r : ℕ) → ((v : ℕ) → has r v ≡ true → v < d) → r < 2 ^ d
less_has zero r f = subst (λ (x : ℕ). x < 1) (set_ext zero r none) (zero-lt-suc 0)
  where
    none : (v : ℕ) → has zero v ≡ has r v
    none v = elim (true_or_false (has r v)) [
      | inl e ↦ absurd (omega (arith, f v e))
      | inr e ↦ has-empty v ∙ sym e
    ]
less_has (suc d) r f =
    rw pow-suc ((div-lt_iff_lt-mul (zero-lt-suc 1)).0 (less_has d (r / 2) (λ v e. omega (arith, f (suc v) (has-suc r v ∙ e)))))

-- ---- all values below d

all_half : (k : ℕ) → (all (suc k) / 2 ≡ all k) × (all (suc k) % 2 ≡ 1)
all_half k = let double : 2 ^ suc k ≡ 2 ^ k * 2 = pow-suc 2 k in (omega (arith, pow_pos k), omega (arith, pow_pos k))

pub all-has : (d v : ℕ) → v < d → has (all d) v ≡ true
all-has zero v h = absurd (not-suc-le-zero h)
all-has (suc d) zero h = has-zero (all (suc d)) ∙ ap (λ (x : ℕ). eqb x 1) (all_half d).1
all-has (suc d) (suc v) h = has-suc (all (suc d)) v ∙ ap (λ (x : ℕ). has x v) (all_half d).0 ∙ all-has d v (le_of_suc-le-suc h)

pub has_all : (d v : ℕ) → has (all d) v ≡ true → v < d
has_all d v t = has_less d (all d) v (ones_lt d) t

-- no value d or above: a subset of those below d
pub below_all : (d r : ℕ) → subset r (all d) ≡ below d r
below_all d r = bool_ext (subset r (all d)) (below d r) inside outside
  where
    inside : subset r (all d) ≡ true → below d r ≡ true
    inside s = less_below d r (less_has d r (λ v h. has_all d v (subset-has r (all d) s v h)))

    outside : below d r ≡ true → subset r (all d) ≡ true
    outside b = has-subset r (all d) (λ v h. all-has d v (has_less d r v (below_less d r b) h))

-- they are a row of the column, where it has a value
pub within_all : (d : ℕ) → 1 ≤ d → within d (all d) ≡ true
unfolding within
within_all d h =
    let some : all d ≢ zero = λ e. omega (arith, e, pow_mono h) in
    and_both (not (eqb (all d) zero)) (below d (all d)) (ap not (ne_eqb (all d) zero some)) (less_below d (all d) (ones_lt d))

-- ---- a value of a set that is not empty

pub some_value : (r : ℕ) → r ≢ zero → (v : ℕ) × (has r v ≡ true)
some_value = bin_ind (λ (n : ℕ). n ≢ zero → (v : ℕ) × (has n v ≡ true)) (λ f. absurd (f refl)) (λ n half f. go n half f (true_or_false (has n zero)))
  where
    go : (n : ℕ) → (n / 2 ≢ zero → (v : ℕ) × (has (n / 2) v ≡ true)) → n ≢ zero → (has n zero ≡ true) ⊎ (has n zero ≡ false)
        → (v : ℕ) × (has n v ≡ true)
    go n half f (inl e) = (zero, e)
    go n half f (inr e) = let t = half (λ z. f (set_ext n zero (nothing z))) in (suc t.0, has-suc n t.0 ∙ t.1)
      where
        nothing : n / 2 ≡ zero → (v : ℕ) → has n v ≡ has zero v
        nothing z zero = e ∙ sym (has-empty zero)
        nothing z (suc v) = has-suc n v ∙ ap (λ (x : ℕ). has x v) z ∙ has-empty v ∙ sym (has-empty (suc v))

-- ---- rows

pub within_some : (d r : ℕ) → within d r ≡ true → (v : ℕ) × (has r v ≡ true)
unfolding within
within_some d r e = some_value r (eqb-false r zero (not-true (eqb r zero) (and_left (not (eqb r zero)) (below d r) e)))

pub within_less : (d r : ℕ) → within d r ≡ true → r < 2 ^ d
unfolding within
within_less d r e = below_less d r (and_right (not (eqb r zero)) (below d r) e)

pub within_has : (d r v : ℕ) → within d r ≡ true → has r v ≡ true → v < d
within_has d r v e h = has_less d r v (within_less d r e) h

-- ---- differences and unions

-- ---- a subset has nothing outside

-- so that one test against the values that b has not answers for any a
pub subset_outside : (k a b : ℕ) → a < 2 ^ k → eqb (bit_and a (minus (all k) b)) zero ≡ subset a b
subset_outside k a b h = elim (true_or_false (subset a b)) [
  | inl s ↦ eq-eqb (bit_and a out) zero (set_ext (bit_and a out) zero (λ v. nothing s v (true_or_false (has (bit_and a out) v)))) ∙ sym s
  | inr n ↦ ne_eqb (bit_and a out) zero (λ z. not_both (has-subset a b (λ v t. in_b z v t (true_or_false (has b v)))) n) ∙ sym n
]
  where
    out : ℕ
    out = minus (all k) b

    nothing : subset a b ≡ true → (v : ℕ) → (has (bit_and a out) v ≡ true) ⊎ (has (bit_and a out) v ≡ false) → has (bit_and a out) v ≡ has zero v
    nothing s v (inr e) = e ∙ sym (has-empty v)
    nothing s v (inl e) =
        let both : (has a v && has out v) ≡ true = sym (has-and a out v) ∙ e in
        absurd
        (not_both (subset-has a b s v (and_left (has a v) (has out v) both)) (minus_out (all k) b v (and_right (has a v) (has out v) both)).1)

    in_b : bit_and a out ≡ zero → (v : ℕ) → has a v ≡ true → (has b v ≡ true) ⊎ (has b v ≡ false) → has b v ≡ true
    in_b z v t (inl e) = e
    in_b z v t (inr e) =
        absurd
        (not_both (has-and a out v ∙ and_both (has a v) (has out v) t (minus_in (all k) b v (all-has k v (has_less k a v h t)) e))
        (ap (λ (x : ℕ). has x v) z ∙ has-empty v))
