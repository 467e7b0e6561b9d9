-- Swap rows: a largest pairing m can use every row that any pairing n of the same rows uses.
-- If a row has a mate in n and none in m, then n's value there has a row in m, or m could grow;
-- move the value to n's row, and m agrees with n in one place more.
-- Assumes nothing.
use Prim.Native.Nat.{ℕ, zero, suc, ◌≤◌, ◌<◌}
use mathlib.Core.Path.{◌≡◌, sym, ap, ◌∙◌, subst}
use mathlib.Core.Logic.{◌≢◌, ◌⊎◌, inl, inr}
use mathlib.Core.List.{List}
use native.Mathlib.Omega.{arith}
use lib.ListN.{length, set, length-set}
use Rattle.theory.specs.Pairings.{size, at, Seated, Pairing, Largest}
use Rattle.theory.proofs.Places.{Mate, mate?, not_mate, at_less, search_below, descend, seated?, at_other, size_more}
use Rattle.theory.proofs.Places.{size_less, differ, differ_copy, differ_store}
use Rattle.theory.proofs.PairingSteps.{pairing_put, pairing_drop, left_over, taken}

-- row i has a mate in n and none in m, or one in m where it has one in n
Idle : List ℕ → List ℕ → ℕ → Type 0
Idle n m i = (v : ℕ) × (at n i ≡ suc v) × (at m i ≡ zero)

Busy : List ℕ → List ℕ → ℕ → Type 0
Busy n m i = (v : ℕ) → at n i ≡ suc v → (w : ℕ) × (at m i ≡ suc w)

idle_or_busy : (n m : List ℕ) (i : ℕ) → Idle n m i ⊎ Busy n m i
unfolding Idle Busy
idle_or_busy n m i = go (mate? (at n i)) (mate? (at m i))
  where
    go : Mate (at n i) → Mate (at m i) → Idle n m i ⊎ Busy n m i
    go (inl z) q = inr (λ v e. absurd (not_mate z e))
    go (inr (v, e)) (inl z) = inl (v, e, z)
    go (inr (v, e)) (inr t) = inr (λ w f. t)

module _ (d : ℕ) (rows n : List ℕ) (N : Pairing d rows n) where
  -- m is a largest pairing that has a mate wherever n has
  pub record RowsSwapped (m : List ℕ) : Type 0 where
    pub pairing : Pairing d rows m
    pub largest : Largest d rows m
    pub busy : (i v : ℕ) → at n i ≡ suc v → (w : ℕ) × (at m i ≡ suc w)

  abbrev Goal : List ℕ → Type 0
  Goal m = (m' : List ℕ) × RowsSwapped m'

  abbrev State : List ℕ → Type 0
  State m = Pairing d rows m × Largest d rows m

  -- n's value at an idle row is moved there
  move_over : (m : List ℕ) → State m → (i : ℕ) → Idle n m i → (m' : List ℕ) × State m' × (differ n m' < differ n m) × (Goal m' → Goal m)
  unfolding Idle
  move_over m (M, L) i (v, e, z) = (
    set m₁ i (suc v),
    (
      pairing_put d rows m₁ i v (pairing_drop d rows m j M hj) hi₁ (N.holds i v e) gone,
      λ p P. let l : size p ≤ size m = L p P in omega (arith, size_less m j v jv, size_more m₁ i v hi₁ z₁),
    ),
    closer,
    λ g. g,
  )
    where
      hn : i < length n
      hn = at_less n i v e

      hi : i < length m
      hi = omega (arith, hn, M.fits, N.fits)

      seat : Seated m v
      seat = elim (seated? m v) [ inl s ↦ s | inr none ↦ let t = taken d rows m i v M L hi (N.holds i v e) none in absurd (not_mate z t.1) ]

      j : ℕ
      j = seat.0

      jv : at m j ≡ suc v
      jv = seat.1

      hj : j < length m
      hj = at_less m j v jv

      i≢j : i ≢ j
      i≢j same = not_mate z (ap (at m) same ∙ jv)

      m₁ : List ℕ
      m₁ = set m j zero

      hi₁ : i < length m₁
      hi₁ = omega (arith, hi, length-set m j zero)

      z₁ : at m₁ i ≡ zero
      z₁ = at_other m j zero i i≢j ∙ z

      gone : Seated m₁ v → ⊥
      gone s = let l = left_over d rows m j s.0 v hj s.1 in l.0 (M.apart s.0 j v l.1 jv)

      closer : differ n (set m₁ i (suc v)) < differ n m
      closer =
          let a : suc (differ n (set m₁ i (suc v))) ≡ differ n m₁ =
          subst (λ (x : ℕ). suc (differ n (set m₁ i x)) ≡ differ n m₁) e
          (differ_copy n m₁ i hn hi₁ (λ same. not_mate z₁ (sym same ∙ e))) in
          let b : differ n m₁ ≤ differ n m = differ_store n m j zero (λ same. i≢j (N.apart i j v e (same ∙ jv))) in
          omega arith

  pub swap_rows : (m : List ℕ) → Pairing d rows m → Largest d rows m → Goal m
  unfolding Busy
  swap_rows m M L = descend State Goal (differ n) step m (M, L)
    where
      step : (m : List ℕ) → State m → Goal m ⊎ ((m' : List ℕ) × State m' × (differ n m' < differ n m) × (Goal m' → Goal m))
      step m (M, L) = elim (search_below (Idle n m) (Busy n m) (idle_or_busy n m) (length n)) [
        | inl b ↦ inr (move_over m (M, L) b.0 b.2)
        | inr all ↦ inl (m, record { pairing = M; largest = L; busy = λ i v e. all i (at_less n i v e) v e })
      ]
