-- A list of mates read by place: 0 or v + 1 at each place, what a store changes, and bounded searches. Assumes nothing.
use Prim.Native.Nat.{ℕ, zero, suc, ◌≤◌, ◌<◌}
use mathlib.Core.Path.{◌≡◌, refl, sym, ap, ◌∙◌, subst}
use mathlib.Core.Logic.{◌≢◌, ◌⊎◌, inl, inr}
use mathlib.Core.Bool.{Bool, true, false, cond}
use mathlib.Core.List.Memᴰ
use mathlib.Core.List.{List, [], ◌∷◌, Memᴰ}
use native.Mathlib.Nat.{le_of_suc-le-suc, not-suc-le-zero, suc-ne-zero}
use native.Mathlib.Decide.{ℕ_discrete, dec_lt}
use native.Mathlib.Omega.{arith}
use lib.Dec.{eqb}
use lib.ListN.{length, set, get_or-eq_default}
use lib.Seq.{get_or-set_same, get_or-set_other}
use borrow.Author.Tests.{eq-eqb, ne_eqb}
use Rattle.theory.specs.Pairings.{size, at, Seated}

-- ---- 0 or v + 1

-- a place has no mate, or the mate v
abbrev pub Mate : ℕ → Type 0
Mate n = (n ≡ zero) ⊎ ((v : ℕ) × (n ≡ suc v))

pub mate? : (n : ℕ) → Mate n
mate? zero = inl refl
mate? (suc v) = inr (v, refl)

pub not_mate : {n v : ℕ} → n ≡ zero → n ≡ suc v → ⊥
not_mate {n} {v} p q = suc-ne-zero v (sym q ∙ p)

pub past : (l : List ℕ) (i : ℕ) → length l ≤ i → at l i ≡ zero
past l i h = get_or-eq_default l zero h

-- a place with a mate is below the length
pub at_less : (p : List ℕ) (i v : ℕ) → at p i ≡ suc v → i < length p
at_less p i v e = elim (dec_lt i (length p)) [ yes h ↦ h | no h ↦ absurd (not_mate (past p i (omega arith)) e) ]

-- ---- searches that end

-- of the numbers below n, one is as wanted or none is
pub search_below : (P Q : ℕ → Type 0) → ((i : ℕ) → P i ⊎ Q i) → (n : ℕ) → ((i : ℕ) × (i < n) × P i) ⊎ ((i : ℕ) → i < n → Q i)
search_below P Q test zero = inr (λ i h. absurd (not-suc-le-zero h))
search_below P Q test (suc n) = step (search_below P Q test n) (test n)
  where
    top : Q n → ((i : ℕ) → i < n → Q i) → (i : ℕ) → i < suc n → Q i
    top q all i h = elim (ℕ_discrete i n) [ yes e ↦ subst Q (sym e) q | no ne ↦ all i (omega arith) ]

    step : ((i : ℕ) × (i < n) × P i) ⊎ ((i : ℕ) → i < n → Q i) → P n ⊎ Q n → ((i : ℕ) × (i < suc n) × P i) ⊎ ((i : ℕ) → i < suc n → Q i)
    step (inl (i, h, p)) q = inl (i, omega arith, p)
    step (inr all) (inl p) = inl (n, omega arith, p)
    step (inr all) (inr q) = inr (top q all)

-- a state in which the goal holds, or from which a step leads to one that counts less and whose goal is enough
module _ {A : Type 0} (State Goal : A → Type 0) (count : A → ℕ)
    (step : (a : A) → State a → Goal a ⊎ ((b : A) × State b × (count b < count a) × (Goal b → Goal a))) where
  descend_from : (k : ℕ) (a : A) → State a → count a ≤ k → Goal a
  descend_from zero a s h = elim (step a s) [ inl g ↦ g | inr t ↦ absurd (omega (arith, t.2)) ]
  descend_from (suc k) a s h = elim (step a s) [ inl g ↦ g | inr t ↦ t.3 (descend_from k t.0 t.1 (omega (arith, t.2))) ]

  pub descend : (a : A) → State a → Goal a
  descend a s = descend_from (count a) a s (omega arith)

-- a value has a row or has none
pub seated? : (p : List ℕ) (v : ℕ) → Seated p v ⊎ (Seated p v → ⊥)
seated? p v = finish (search_below (λ i. at p i ≡ suc v) (λ i. at p i ≢ suc v) test (length p))
  where
    test : (i : ℕ) → (at p i ≡ suc v) ⊎ (at p i ≢ suc v)
    test i = elim (ℕ_discrete (at p i) (suc v)) [ yes e ↦ inl e | no ne ↦ inr ne ]

    finish : ((i : ℕ) × (i < length p) × (at p i ≡ suc v)) ⊎ ((i : ℕ) → i < length p → at p i ≢ suc v) → Seated p v ⊎ (Seated p v → ⊥)
    finish (inl (i, h, e)) = inl (i, e)
    finish (inr none) = inr (λ s. none s.0 (at_less p s.0 v s.1) s.1)

-- ---- members of a list by place

pub mem_place : (l : List ℕ) (x : ℕ) → Memᴰ x l → (i : ℕ) × (i < length l) × (x ≡ at l i)
mem_place [] x m = absurd (Memᴰ.not-nil m)
mem_place (y ∷ l) x m = go (λ k. mem_place l x k) (Memᴰ.cases_cons m)
  where
    go : (Memᴰ x l → (i : ℕ) × (i < length l) × (x ≡ at l i)) → (x ≡ y) ⊎ Memᴰ x l → (i : ℕ) × (i < suc (length l)) × (x ≡ at (y ∷ l) i)
    go rec (inl e) = (zero, omega arith, e)
    go rec (inr k) = let t = rec k in (suc t.0, omega (arith, t.1), t.2)

pub mem_some : {x : ℕ} {l : List ℕ} → Memᴰ x l → zero < length l
mem_some (Memᴰ.head e) = omega arith
mem_some (Memᴰ.tail m) = omega arith

-- ---- after a store

pub at_same : (p : List ℕ) (i x : ℕ) → i < length p → at (set p i x) i ≡ x
at_same p i x h = get_or-set_same p i x zero h

pub at_other : (p : List ℕ) (i x j : ℕ) → j ≢ i → at (set p i x) j ≡ at p j
at_other p i x j ne = get_or-set_other p i j x zero ne

-- what stands at place j after x was stored at place i
abbrev pub Stored : List ℕ → ℕ → ℕ → ℕ → Type 0
Stored p i x j = ((j ≡ i) × (at (set p i x) j ≡ x)) ⊎ ((j ≢ i) × (at (set p i x) j ≡ at p j))

pub stored : (p : List ℕ) (i x j : ℕ) → i < length p → Stored p i x j
stored p i x j h = go (ℕ_discrete j i)
  where
    go : Dec (j ≡ i) → Stored p i x j
    go (yes e) = inl (e, ap (at (set p i x)) e ∙ at_same p i x h)
    go (no ne) = inr (ne, at_other p i x j ne)

-- ---- sizes after a store

pub size_more : (p : List ℕ) (i v : ℕ) → i < length p → at p i ≡ zero → size (set p i (suc v)) ≡ suc (size p)
unfolding size
size_more [] i v h e = absurd (not-suc-le-zero h)
size_more (zero ∷ p) zero v h e = refl
size_more (suc x ∷ p) zero v h e = absurd (suc-ne-zero x e)
size_more (zero ∷ p) (suc i) v h e = size_more p i v (le_of_suc-le-suc h) e
size_more (suc x ∷ p) (suc i) v h e = ap suc (size_more p i v (le_of_suc-le-suc h) e)

pub size_less : (p : List ℕ) (i w : ℕ) → at p i ≡ suc w → suc (size (set p i zero)) ≡ size p
unfolding size
size_less [] i w e = absurd (suc-ne-zero w (sym e))
size_less (zero ∷ p) zero w e = absurd (suc-ne-zero w (sym e))
size_less (suc x ∷ p) zero w e = refl
size_less (zero ∷ p) (suc i) w e = size_less p i w e
size_less (suc x ∷ p) (suc i) w e = ap suc (size_less p i w e)

pub size_same : (p : List ℕ) (i w v : ℕ) → at p i ≡ suc w → size (set p i (suc v)) ≡ size p
unfolding size
size_same [] i w v e = absurd (suc-ne-zero w (sym e))
size_same (zero ∷ p) zero w v e = absurd (suc-ne-zero w (sym e))
size_same (suc x ∷ p) zero w v e = refl
size_same (zero ∷ p) (suc i) w v e = size_same p i w v e
size_same (suc x ∷ p) (suc i) w v e = ap suc (size_same p i w v e)

-- ---- in how many places two lists differ

pub differ : List ℕ → List ℕ → ℕ
differ [] q = zero
differ (x ∷ p) [] = zero
differ (x ∷ p) (y ∷ q) = cond (eqb x y) (differ p q) (suc (differ p q))

-- one place more, unless the test says that it is the same
count-le : (b : Bool) (m n : ℕ) → m ≤ n → cond b m (suc m) ≤ cond b n (suc n)
count-le true m n h = h
count-le false m n h = omega arith

count-suc : (b : Bool) (m n : ℕ) → suc m ≡ n → suc (cond b m (suc m)) ≡ cond b n (suc n)
count-suc true m n h = h
count-suc false m n h = ap suc h

count_most : (b : Bool) (n : ℕ) → cond b n (suc n) ≤ suc n
count_most true n = omega arith
count_most false n = omega arith

-- to copy a place of p into q makes them differ in one place less
pub differ_copy : (p q : List ℕ) (i : ℕ) → i < length p → i < length q → at p i ≢ at q i → suc (differ p (set q i (at p i))) ≡ differ p q
unfolding differ
differ_copy [] q i h k ne = absurd (not-suc-le-zero h)
differ_copy (x ∷ p) [] i h k ne = absurd (not-suc-le-zero k)
differ_copy (x ∷ p) (y ∷ q) zero h k ne = rw (eq-eqb x x refl, ne_eqb x y ne)
differ_copy (x ∷ p) (y ∷ q) (suc i) h k ne =
    count-suc (eqb x y) (differ p (set q i (at p i))) (differ p q) (differ_copy p q i (le_of_suc-le-suc h) (le_of_suc-le-suc k) ne)

-- a store where they differ does not make them differ in more places
pub differ_store : (p q : List ℕ) (i x : ℕ) → at p i ≢ at q i → differ p (set q i x) ≤ differ p q
unfolding differ
differ_store [] q i x ne = omega arith
differ_store (y ∷ p) [] i x ne = omega arith
differ_store (y ∷ p) (z ∷ q) zero x ne = rw (ne_eqb y z ne) (count_most (eqb y x) (differ p q))
differ_store (y ∷ p) (z ∷ q) (suc i) x ne = count-le (eqb y z) (differ p (set q i x)) (differ p q) (differ_store p q i x ne)
