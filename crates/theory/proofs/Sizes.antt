-- Sizes of lists of mates compared: by places, by values, with the number of rows and the number of values. Assumes nothing.
use Prim.Native.Nat.{ℕ, zero, suc, ◌≤◌, ◌<◌}
use mathlib.Core.Path.{◌≡◌, refl, sym, ap, ◌∙◌}
use mathlib.Core.Logic.{◌≢◌}
use mathlib.Core.List.{List, [], ◌∷◌}
use native.Mathlib.Nat.{suc_inj, suc-ne-zero, not-suc-le-zero}
use native.Mathlib.Decide.{ℕ_discrete}
use native.Mathlib.Omega.{arith}
use lib.ListN.{length, set}
use Rattle.theory.specs.Pairings.{size, at, Seated}
use Rattle.theory.proofs.Places.{at_other, size_less}

-- q has a mate wherever p has
pub size_by_places : (p q : List ℕ) → ((i v : ℕ) → at p i ≡ suc v → (w : ℕ) × (at q i ≡ suc w)) → size p ≤ size q
unfolding size
size_by_places [] q f = omega arith
size_by_places (zero ∷ p) [] f = size_by_places p [] (λ i v e. f (suc i) v e)
size_by_places (suc x ∷ p) [] f = let t = f zero x refl in absurd (suc-ne-zero t.0 (sym t.1))
size_by_places (zero ∷ p) (zero ∷ q) f = size_by_places p q (λ i v e. f (suc i) v e)
size_by_places (zero ∷ p) (suc y ∷ q) f = let h : size p ≤ size q = size_by_places p q (λ i v e. f (suc i) v e) in omega arith
size_by_places (suc x ∷ p) (zero ∷ q) f = let t = f zero x refl in absurd (suc-ne-zero t.0 (sym t.1))
size_by_places (suc x ∷ p) (suc y ∷ q) f = let h : size p ≤ size q = size_by_places p q (λ i v e. f (suc i) v e) in omega arith

-- p has no value twice, and q has all of p's values
pub size_by_values : (p q : List ℕ) → ((i j v : ℕ) → at p i ≡ suc v → at p j ≡ suc v → i ≡ j) → ((v : ℕ) → Seated p v → Seated q v) → size p ≤ size q
unfolding size
size_by_values [] q apart f = omega arith
size_by_values (zero ∷ p) q apart f = size_by_values p q (λ i j v e g. suc_inj (apart (suc i) (suc j) v e g)) (λ v s. f v (suc s.0, s.1))
size_by_values (suc v ∷ p) q apart f =
    let s : Seated q v = f v (zero, refl) in
    let h : size p ≤ size (set q s.0 zero) = size_by_values p (set q s.0 zero) (λ i j w e g. suc_inj (apart (suc i) (suc j) w e g)) (rest s) in
    omega (arith, size_less q s.0 v s.1)
  where
    rest : (s : Seated q v) (w : ℕ) → Seated p w → Seated (set q s.0 zero) w
    rest s w u =
        let k : Seated q w = f w (suc u.0, u.1) in
        let other : k.0 ≢ s.0 = λ same. suc-ne-zero u.0 (apart (suc u.0) zero v (u.1 ∙ sym k.1 ∙ ap (at q) same ∙ s.1) refl) in
        (k.0, at_other q s.0 zero k.0 other ∙ k.1)

pub size_by_rows : (p : List ℕ) → size p ≤ length p
unfolding size
size_by_rows [] = omega arith
size_by_rows (zero ∷ p) = let h : size p ≤ length p = size_by_rows p in omega arith
size_by_rows (suc v ∷ p) = let h : size p ≤ length p = size_by_rows p in omega arith

-- ---- no more mates than values

-- the mates of d rows, the values d - 1 to 0
all-values : ℕ → List ℕ
all-values zero = []
all-values (suc d) = suc d ∷ all-values d

all_seated : (d v : ℕ) → v < d → Seated (all-values d) v
unfolding all-values
all_seated zero v h = absurd (not-suc-le-zero h)
all_seated (suc d) v h = go (λ k. all_seated d v k) (ℕ_discrete v d)
  where
    go : (v < d → Seated (all-values d) v) → Dec (v ≡ d) → Seated (suc d ∷ all-values d) v
    go rec (yes e) = (zero, ap suc (sym e))
    go rec (no ne) = let s = rec (omega arith) in (suc s.0, s.1)

size-all : (d : ℕ) → size (all-values d) ≡ d
unfolding all-values size
size-all zero = refl
size-all (suc d) = ap suc (size-all d)

pub size_by_d : (d : ℕ) (p : List ℕ) → ((i j v : ℕ) → at p i ≡ suc v → at p j ≡ suc v → i ≡ j) → ((i v : ℕ) → at p i ≡ suc v → v < d) → size p ≤ d
size_by_d d p apart small = omega (arith, size-all d, size_by_values p (all-values d) apart (λ v s. all_seated d v (small s.0 v s.1)))
