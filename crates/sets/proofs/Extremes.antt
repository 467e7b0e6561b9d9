-- The lowest and the highest value of a set, as the counts of its zeros give them. Assumes nothing.
use Prim.Native.Nat.{ℕ, zero, suc, ◌+◌, ◌-◌, ◌*◌, ◌/◌, ◌%◌, ◌^◌, ◌≤◌, ◌<◌, min}
use mathlib.Core.Path.{◌≡◌, sym, ap, ap₂, ◌∙◌, subst}
use mathlib.Core.Logic.{◌≢◌, ◌⊎◌, inl, inr}
use mathlib.Core.Bool.{Bool, true, false, not, ◌&&◌, and-true, and-false}
use native.Mathlib.Nat.{add-zero, mod-lt, zero-lt-suc, div-lt_iff_lt-mul, le-div_iff_mul-le, pow-suc, mul_comm, one-mul, eq-zero-or-pos}
use native.Mathlib.Omega.{arith}
use lib.Count.{count_trailing_zeros, count_leading_zeros, under, leading_of_zero, leading_top}
use lib.Bits.{bit_and, and_step, and_self}
use lib.Dec.{eqb, eqb-zero-suc, eqb-suc-suc}
use lib.Pow.{pow_pos}
use borrow.Author.Tests.{eqb-true, eqb-false}
use Rattle.sets.specs.Sets.{has, single, minus}
use Rattle.sets.proofs.Bools.{true_or_false}
use Rattle.sets.proofs.Values.{has-zero, has-suc, has-single, has-minus, set_ext}

-- ---- the lowest

low_digit : (n : ℕ) → (n % 2 ≡ 0) ⊎ ((n % 2 ≡ 1) × (has n zero ≡ true))
low_digit n = elim (true_or_false (has n zero)) [
  | inl e ↦ inr (eqb-true (n % 2) 1 (sym (has-zero n) ∙ e), e)
  | inr e ↦ inl (let other : n % 2 ≢ 1 = eqb-false (n % 2) 1 (sym (has-zero n) ∙ e) in omega (arith, mod-lt n (zero-lt-suc 1)))
]

-- of a set of values below k
pub lowest_has : (k n : ℕ) → n < 2 ^ k → n ≢ zero → (count_trailing_zeros k n < k) × (has n (count_trailing_zeros k n) ≡ true)
unfolding count_trailing_zeros
lowest_has zero n h ne = absurd (ne (omega arith))
lowest_has (suc k) n h ne = elim (low_digit n) [
  | inr e ↦ (
    subst (λ (x : ℕ). under x (count_trailing_zeros k (n / 2)) < suc k) (sym e.0) (zero-lt-suc k),
    ap (λ (x : ℕ). has n (under x (count_trailing_zeros k (n / 2)))) e.0 ∙ e.1,
  )
  | inl e ↦
      let half : n / 2 < 2 ^ k = (div-lt_iff_lt-mul (zero-lt-suc 1)).1 (rw pow-suc at h) in
      let ih = lowest_has k (n / 2) half (λ z. ne (omega (arith, z, e))) in
      let is : under (n % 2) (count_trailing_zeros k (n / 2)) ≡ suc (count_trailing_zeros k (n / 2))
      = ap (λ (x : ℕ). under x (count_trailing_zeros k (n / 2))) e in
      (omega (arith, is, ih.0), ap (has n) is ∙ has-suc n (count_trailing_zeros k (n / 2)) ∙ ih.1)
]

-- no value of the set is lower
pub lowest_least : (k n v : ℕ) → has n v ≡ true → count_trailing_zeros k n ≤ v
unfolding count_trailing_zeros
lowest_least zero n v h = omega arith
lowest_least (suc k) n v h = elim (low_digit n) [
  | inr e ↦ subst (λ (x : ℕ). under x (count_trailing_zeros k (n / 2)) ≤ v) (sym e.0) (omega arith)
  | inl e ↦ subst (λ (x : ℕ). under x (count_trailing_zeros k (n / 2)) ≤ v) (sym e) (higher v h e (λ u t. lowest_least k (n / 2) u t))
]
  where
    higher : (v : ℕ) → has n v ≡ true → n % 2 ≡ 0 → ((u : ℕ) → has (n / 2) u ≡ true → count_trailing_zeros k (n / 2) ≤ u)
        → suc (count_trailing_zeros k (n / 2)) ≤ v
    higher zero h e rec = absurd (let one : n % 2 ≡ 1 = eqb-true (n % 2) 1 (sym (has-zero n) ∙ h) in omega (arith, one, e))
    higher (suc u) h e rec = let l = rec u (sym (has-suc n u) ∙ h) in omega (arith, l)

-- ---- a set without its lowest value

-- one less has the lowest value no more, and the higher ones as before
rest_even : (n : ℕ) → n % 2 ≡ 0 → n ≢ zero → bit_and n (n - 1) ≡ bit_and (n / 2) (n / 2 - 1) * 2
rest_even n e ne =
    and_step n (n - 1)
    ∙ ap₂ (λ (x y : ℕ). bit_and (n / 2) x * 2 + y) (let half : (n - 1) / 2 ≡ n / 2 - 1 = omega (arith, e, ne) in half)
    (let low : min (n % 2) ((n - 1) % 2) ≡ zero = omega (arith, e) in low)
    ∙ add-zero (bit_and (n / 2) (n / 2 - 1) * 2)

rest_odd : (n : ℕ) → n % 2 ≡ 1 → bit_and n (n - 1) ≡ n / 2 * 2
rest_odd n e =
    and_step n (n - 1)
    ∙ ap₂ (λ (x y : ℕ). bit_and (n / 2) x * 2 + y) (let half : (n - 1) / 2 ≡ n / 2 = omega (arith, e) in half)
    (let low : min (n % 2) ((n - 1) % 2) ≡ zero = omega (arith, e) in low)
    ∙ add-zero (bit_and (n / 2) (n / 2) * 2)
    ∙ ap (λ (x : ℕ). x * 2) (and_self (n / 2))

has_double : (n v : ℕ) → has (n * 2) (suc v) ≡ has n v
has_double n v = has-suc (n * 2) v ∙ ap (λ (x : ℕ). has x v) (let half : n * 2 / 2 ≡ n = omega arith in half)

has_double_low : (n : ℕ) → has (n * 2) zero ≡ false
has_double_low n = has-zero (n * 2) ∙ ap (λ (x : ℕ). eqb x 1) (let low : n * 2 % 2 ≡ 0 = omega arith in low)

rest_has : (k n : ℕ) → n < 2 ^ k → n ≢ zero → (v : ℕ) → has (bit_and n (n - 1)) v ≡ (has n v && not (eqb (count_trailing_zeros k n) v))
unfolding count_trailing_zeros
rest_has zero n h ne v = absurd (ne (omega arith))
rest_has (suc k) n h ne v = elim (low_digit n) [
  | inr e ↦
      ap (λ (x : ℕ). has x v) (rest_odd n e.0) ∙ odd v e.1
      ∙ ap (λ (x : ℕ). has n v && not (eqb (under x (count_trailing_zeros k (n / 2))) v)) (sym e.0)
  | inl e ↦
      ap (λ (x : ℕ). has x v) (rest_even n e ne)
      ∙ even v e (rest_has k (n / 2) ((div-lt_iff_lt-mul (zero-lt-suc 1)).1 (rw pow-suc at h)) (λ z. ne (omega (arith, z, e))))
      ∙ ap (λ (x : ℕ). has n v && not (eqb (under x (count_trailing_zeros k (n / 2))) v)) (sym e)
]
  where
    odd : (v : ℕ) → has n zero ≡ true → has (n / 2 * 2) v ≡ (has n v && not (eqb zero v))
    odd zero t = has_double_low (n / 2) ∙ sym (and-false (has n zero))
    odd (suc v) t =
        has_double (n / 2) v ∙ sym (has-suc n v) ∙ sym (ap (λ (b : Bool). has n (suc v) && not b) (eqb-zero-suc v) ∙ and-true (has n (suc v)))

    even : (v : ℕ) → n % 2 ≡ 0 → ((u : ℕ) → has (bit_and (n / 2) (n / 2 - 1)) u ≡ (has (n / 2) u && not (eqb (count_trailing_zeros k (n / 2)) u)))
        → has (bit_and (n / 2) (n / 2 - 1) * 2) v ≡ (has n v && not (eqb (suc (count_trailing_zeros k (n / 2))) v))
    even zero e ih =
        has_double_low (bit_and (n / 2) (n / 2 - 1))
        ∙ sym (ap (λ (b : Bool). b && not (eqb (suc (count_trailing_zeros k (n / 2))) zero)) (has-zero n ∙ ap (λ (x : ℕ). eqb x 1) e))
    even (suc v) e ih =
        has_double (bit_and (n / 2) (n / 2 - 1)) v ∙ ih v
        ∙ ap₂ (λ (a b : Bool). a && not b) (sym (has-suc n v)) (sym (eqb-suc-suc (count_trailing_zeros k (n / 2)) v))

pub rest_is : (k n : ℕ) → n < 2 ^ k → n ≢ zero → bit_and n (n - 1) ≡ minus n (single (count_trailing_zeros k n))
rest_is k n h ne =
    set_ext (bit_and n (n - 1)) (minus n (single (count_trailing_zeros k n)))
    (λ v. rest_has k n h ne v ∙ ap (λ (b : Bool). has n v && not b) (sym (has-single (count_trailing_zeros k n) v))
    ∙ sym (has-minus n (single (count_trailing_zeros k n)) v))

-- ---- the highest

highest_digit : (a j : ℕ) → 2 ^ j ≤ a → a < 2 ^ suc j → has a j ≡ true
unfolding has
highest_digit a j h l = ap (λ (x : ℕ). eqb (x % 2) 1) one
  where
    least : 1 ≤ a / 2 ^ j
    least = (le-div_iff_mul-le (pow_pos j)).1 (rw one-mul h)

    most : a / 2 ^ j < 2
    most = (div-lt_iff_lt-mul (pow_pos j)).1 (rw (pow-suc, mul_comm (2 ^ j) 2) at l)

    one : a / 2 ^ j ≡ 1
    one = omega (arith, least, most)

-- of a set of values below k: one more than its highest value is what the zeros above it leave of k, and 0 where it has none
pub top_has : (k a r : ℕ) → a < 2 ^ k → r ≡ k - count_leading_zeros k a → r ≢ zero → (r - 1 < k) × (has a (r - 1) ≡ true)
top_has k a r h e ne = go (leading_top k a (omega (arith, some)) h)
  where
    some : a ≢ zero
    some z = ne (e ∙ ap (λ (x : ℕ). k - count_leading_zeros k x) z ∙ (let all : count_leading_zeros k zero ≡ k = leading_of_zero k in omega arith))

    go : (j : ℕ) × (count_leading_zeros k a + suc j ≡ k) × (2 ^ j ≤ a) × (a < 2 ^ suc j) → (r - 1 < k) × (has a (r - 1) ≡ true)
    go (j, sum, least, most) = let is : r - 1 ≡ j = omega arith in (omega arith, ap (has a) is ∙ highest_digit a j least most)

pub top_none : (k a r : ℕ) → a < 2 ^ k → r ≡ k - count_leading_zeros k a → r ≡ zero → a ≡ zero
top_none k a r h e z = elim (eq-zero-or-pos a) [ inl n ↦ n | inr p ↦ let t = leading_top k a p h in absurd (omega (arith, t.1)) ]
