-- Subsets and proper subsets, said by values. Assumes nothing.
use Prim.Native.Nat.{ℕ, zero, ◌<◌}
use mathlib.Core.Path.{◌≡◌, sym, ap, ◌∙◌}
use mathlib.Core.Logic.{◌≢◌}
use mathlib.Core.Bool.{Bool, true, false, not, ◌&&◌}
use native.Mathlib.Omega.{arith}
use lib.Bits.{bit_and, bit_xor, and_le_l, and_le_r, xor_self, xor_comm, xor_add_and}
use lib.Dec.{eqb}
use borrow.Author.Tests.{eqb-true, eqb-false, eq-eqb, ne_eqb, not-true, not-false}
use Rattle.sets.specs.Sets.{has, single, subset, proper, minus}
use Rattle.sets.proofs.Bools.{and_left, and_right, and_both, not_both, bool_ext}
use Rattle.sets.proofs.Values.{has-and, has_same, minus_out, set_antisym}

pub subset-has : (a b : ℕ) → subset a b ≡ true → (v : ℕ) → has a v ≡ true → has b v ≡ true
unfolding subset
subset-has a b e v h = and_right (has a v) (has b v) (sym (has-and a b v) ∙ ap (λ (x : ℕ). has x v) (eqb-true (bit_and a b) a e) ∙ h)

pub has-subset : (a b : ℕ) → ((v : ℕ) → has a v ≡ true → has b v ≡ true) → subset a b ≡ true
unfolding subset
has-subset a b f =
    eq-eqb (bit_and a b) a
    (set_antisym (bit_and a b) a (λ v h. and_left (has a v) (has b v) (sym (has-and a b v) ∙ h))
    (λ v h. has-and a b v ∙ and_both (has a v) (has b v) h (f v h)))

pub subset_refl : (a : ℕ) → subset a a ≡ true
subset_refl a = has-subset a a (λ v h. h)

pub subset_trans : (a b c : ℕ) → subset a b ≡ true → subset b c ≡ true → subset a c ≡ true
subset_trans a b c p q = has-subset a c (λ v h. subset-has b c q v (subset-has a b p v h))

pub subset_antisym : (a b : ℕ) → subset a b ≡ true → subset b a ≡ true → a ≡ b
subset_antisym a b p q = set_antisym a b (subset-has a b p) (subset-has b a q)

pub proper-subset : (a b : ℕ) → proper a b ≡ true → subset a b ≡ true
unfolding proper
proper-subset a b e = and_left (subset a b) (not (eqb a b)) e

-- a proper subset is a smaller number, so there is no endless descent
pub proper_less : (a b : ℕ) → proper a b ≡ true → a < b
unfolding proper subset
proper_less a b e =
    let same : bit_and a b ≡ a = eqb-true (bit_and a b) a (and_left (subset a b) (not (eqb a b)) e) in
    let other : a ≢ b = eqb-false a b (not-true (eqb a b) (and_right (subset a b) (not (eqb a b)) e)) in
    omega (arith, and_le_r a b)

-- a subset that is not proper is the same set
pub subset_same : (a b : ℕ) → subset a b ≡ true → proper a b ≡ false → a ≡ b
unfolding proper
subset_same a b e f = eqb-true a b (not-false (eqb a b) (sym (ap (λ (t : Bool). t && not (eqb a b)) e) ∙ f))

-- ---- a value taken out

pub minus-subset : (a b : ℕ) → subset (minus a b) a ≡ true
minus-subset a b = has-subset (minus a b) a (λ v h. (minus_out a b v h).0)

-- leaves a smaller number, so that a walk through a set ends
pub without_less : (a v : ℕ) → has a v ≡ true → minus a (single v) < a
unfolding proper
without_less a v h =
    proper_less (minus a (single v)) a (and_both (subset (minus a (single v)) a) (not (eqb (minus a (single v)) a)) (minus-subset a (single v)) other)
  where
    other : not (eqb (minus a (single v)) a) ≡ true
    other = ap not (ne_eqb (minus a (single v)) a (λ e. not_both (has_same v) (minus_out a (single v) v (ap (λ (x : ℕ). has x v) e ∙ h)).1))

-- ---- tests by what is left

-- two sets that differ in no value are equal
pub xor-empty : (a b : ℕ) → eqb (bit_xor a b) zero ≡ eqb a b
xor-empty a b = bool_ext (eqb (bit_xor a b) zero) (eqb a b) same different
  where
    same : eqb (bit_xor a b) zero ≡ true → eqb a b ≡ true
    same e =
        let z : bit_xor a b ≡ zero = eqb-true (bit_xor a b) zero e in
        eq-eqb a b (omega (arith, xor_add_and a b, and_le_l a b, and_le_r a b))

    different : eqb a b ≡ true → eqb (bit_xor a b) zero ≡ true
    different e = eq-eqb (bit_xor a b) zero (ap (bit_xor a) (sym (eqb-true a b e)) ∙ xor_self a)

-- a set is a subset where nothing is left of it
pub minus-empty : (a b : ℕ) → eqb (minus a b) zero ≡ subset a b
unfolding minus subset
minus-empty a b = ap (λ (x : ℕ). eqb x zero) (xor_comm a (bit_and a b)) ∙ xor-empty (bit_and a b) a
