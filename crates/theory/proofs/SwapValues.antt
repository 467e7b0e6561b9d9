-- Swap values: the rows that have mates in a largest pairing n can be given every value that any pairing m of the same rows uses.
-- If a value of m is missing from n, then the row that m gives it has a mate in n, or n could grow;
-- put m's value there, and n agrees with m in one place more.
-- Assumes nothing.
use Prim.Native.Nat.{ℕ, zero, suc, ◌≤◌, ◌<◌}
use mathlib.Core.Path.{◌≡◌, sym, ap, ◌∙◌, subst}
use mathlib.Core.Logic.{◌⊎◌, inl, inr}
use mathlib.Core.List.{List}
use native.Mathlib.Nat.{suc_inj}
use native.Mathlib.Omega.{arith}
use lib.ListN.{length, set}
use Rattle.theory.specs.Pairings.{size, at, Seated, Pairing, Largest}
use Rattle.theory.proofs.Places.{Mate, mate?, not_mate, at_less, search_below, descend, seated?, at_other, size_same, differ, differ_copy}
use Rattle.theory.proofs.PairingSteps.{pairing_put, taken}

-- row i's value in m has no row in n, or has one
Missing : List ℕ → List ℕ → ℕ → Type 0
Missing m n i = (v : ℕ) × (at m i ≡ suc v) × (Seated n v → ⊥)

Covered : List ℕ → List ℕ → ℕ → Type 0
Covered m n i = (v : ℕ) → at m i ≡ suc v → Seated n v

missing_or_covered : (m n : List ℕ) (i : ℕ) → Missing m n i ⊎ Covered m n i
unfolding Missing Covered
missing_or_covered m n i = go (mate? (at m i))
  where
    value : (v : ℕ) → at m i ≡ suc v → Seated n v ⊎ (Seated n v → ⊥) → Missing m n i ⊎ Covered m n i
    value v e (inl s) = inr (λ w f. subst (Seated n) (suc_inj (sym e ∙ f)) s)
    value v e (inr none) = inl (v, e, none)

    go : Mate (at m i) → Missing m n i ⊎ Covered m n i
    go (inl z) = inr (λ v e. absurd (not_mate z e))
    go (inr (v, e)) = value v e (seated? n v)

module _ (d : ℕ) (rows m : List ℕ) (M : Pairing d rows m) where
  -- n' has no mate where n has none, and every value of m
  pub record ValuesSwapped (n n' : List ℕ) : Type 0 where
    pub pairing : Pairing d rows n'
    pub zeros : (i : ℕ) → at n i ≡ zero → at n' i ≡ zero
    pub covers : (i v : ℕ) → at m i ≡ suc v → Seated n' v

  abbrev Goal : List ℕ → Type 0
  Goal n = (n' : List ℕ) × ValuesSwapped n n'

  abbrev State : List ℕ → Type 0
  State n = Pairing d rows n × Largest d rows n

  -- one missing value is put in
  put_in : (n : List ℕ) → State n → (i : ℕ) → Missing m n i → (n' : List ℕ) × State n' × (differ m n' < differ m n) × (Goal n' → Goal n)
  unfolding Missing
  put_in n (N, L) i (v, e, none) = (
    set n i (suc v),
    (pairing_put d rows n i v N hn (M.holds i v e) none, λ p P. subst (λ (k : ℕ). size p ≤ k) (sym (size_same n i t.0 v t.1)) (L p P)),
    closer,
    λ g. (g.0, record { pairing = g.1.pairing; zeros = λ j z. g.1.zeros j (zeros j z); covers = g.1.covers }),
  )
    where
      hm : i < length m
      hm = at_less m i v e

      hn : i < length n
      hn = omega (arith, hm, M.fits, N.fits)

      t : (w : ℕ) × (at n i ≡ suc w)
      t = taken d rows n i v N L hn (M.holds i v e) none

      zeros : (j : ℕ) → at n j ≡ zero → at (set n i (suc v)) j ≡ zero
      zeros j z = at_other n i (suc v) j (λ same. not_mate z (ap (at n) same ∙ t.1)) ∙ z

      closer : differ m (set n i (suc v)) < differ m n
      closer =
          let c : suc (differ m (set n i (suc v))) ≡ differ m n =
          subst (λ (x : ℕ). suc (differ m (set n i x)) ≡ differ m n) e
          (differ_copy m n i hm hn (λ same. none (i, sym same ∙ e))) in
          omega arith

  pub swap_values : (n : List ℕ) → Pairing d rows n → Largest d rows n → Goal n
  unfolding Covered
  swap_values n N L = descend State Goal (differ m) step n (N, L)
    where
      step : (n : List ℕ) → State n → Goal n ⊎ ((n' : List ℕ) × State n' × (differ m n' < differ m n) × (Goal n' → Goal n))
      step n (N, L) = elim (search_below (Missing m n) (Covered m n) (missing_or_covered m n) (length m)) [
        | inl b ↦ inr (put_in n (N, L) b.0 b.2)
        | inr all ↦ inl (n, record { pairing = N; zeros = λ i z. z; covers = λ i v e. all i (at_less m i v e) v e })
      ]
