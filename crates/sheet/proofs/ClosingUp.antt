-- The rows at the places that pass, closed up: which they are by place, how 512 places hold them, which of them pass a second test,
-- and the rows of one desk but for some. Assumes nothing.
use Prim.Native.Nat.{ℕ, zero, suc, ◌-◌, ◌≤◌, ◌<◌}
use mathlib.Core.Path.{◌≡◌, refl, ap, ◌∙◌}
use mathlib.Core.Logic.{inl, inr}
use mathlib.Core.Bool.{Bool, true, false, cond, not, ◌&&◌}
use mathlib.Core.List.{List, [], ◌∷◌, ◌++◌, append-nil, append_assoc}
use native.Mathlib.Nat.{not-suc-le-zero}
use native.Mathlib.Omega.{arith}
use lib.Dec.{leb, ltb}
use lib.ListN.{length, replicate, take, drop, length-append, length-replicate, drop_of_length-le, get_or-append}
use lib.Seq.{get_or_at, take_all, take-nil, drop-nil, take-append-le, drop-append-le}
use borrow.Author.Tests.{leb-true, leb-false, ltb-true, ltb-false}
use Rattle.sets.specs.Limits.{most_places}
use Rattle.theory.specs.Pairings.{at}
use Rattle.sets.proofs.Bools.{true_or_false}
use Rattle.sheet.specs.Upto.{count_to, those}
use Rattle.sheet.specs.Changes.{padded}
use Rattle.sheet.proofs.UptoLaws.{those_same, length-those, top_or-below}

-- ---- 512 places

pub at_zeros : (n i : ℕ) → at (replicate n zero) i ≡ zero
at_zeros zero i = refl
at_zeros (suc n) zero = refl
at_zeros (suc n) (suc i) = at_zeros n i

at_then_zeros : (l : List ℕ) (n i : ℕ) → at (l ++ replicate n zero) i ≡ at l i
at_then_zeros [] n i = at_zeros n i
at_then_zeros (x ∷ l) n zero = refl
at_then_zeros (x ∷ l) n (suc i) = at_then_zeros l n i

-- 0 is what is read past the end
pub at-padded : (l : List ℕ) (i : ℕ) → at (padded l) i ≡ at l i
unfolding padded
at-padded l i = at_then_zeros l (most_places - length l) i

pub length-padded : (l : List ℕ) → length l ≤ most_places → length (padded l) ≡ most_places
unfolding padded
length-padded l h = simp (length-append, length-replicate) (omega arith)

-- ---- by place

-- the row at a place of those that pass is a row
pub those_from : (f : ℕ → Bool) (rows : List ℕ) (n i : ℕ) → i < count_to f n → (m : ℕ) × (m < n) × (at (those f rows n) i ≡ at rows m)
unfolding count_to those
those_from f rows zero i h = absurd (not-suc-le-zero h)
those_from f rows (suc n) i h = elim (true_or_false (f n)) [
  | inl e ↦ (elim (top_or-below (count_to f n) i (rw e at h)) [
    | inl q ↦ (n, omega arith, rw (e, q) (get_or_at (those f rows n) (at rows n) [] zero (count_to f n) (length-those f rows n)))
    | inr l ↦ (let t = those_from f rows n i l in
        (t.0, omega (arith, t.1), rw e (get_or-append (those f rows n) (at rows n ∷ []) zero i (omega (arith, length-those f rows n))) ∙ t.2))
  ])
  | inr e ↦ (let t = those_from f rows n i (rw e at h) in (t.0, omega (arith, t.1), rw (e, append-nil) t.2))
]

-- ---- a second test

-- of the rows that pass f, those whose mark passes g are the rows that pass both
module _ (f : ℕ → Bool) (g : ℕ → Bool) (marks rows : List ℕ) where
  one_more : (K L : List ℕ) (o v c : ℕ) → length K ≡ c → length L ≡ c
      → those (λ i. g (at (K ++ (o ∷ [])) i)) (L ++ (v ∷ [])) (suc c) ≡ those (λ i. g (at K i)) L c ++ cond (g o) (v ∷ []) []
  unfolding those
  one_more K L o v c a b =
      rw (
        those_same (λ i. g (at (K ++ (o ∷ [])) i)) (λ i. g (at K i)) (L ++ (v ∷ [])) L c
            (λ i h. ap g (get_or-append K (o ∷ []) zero i (omega arith)))
            (λ i h. get_or-append L (v ∷ []) zero i (omega arith)),
        get_or_at K o [] zero c a,
        get_or_at L v [] zero c b,
      )

  pub those-those : (n : ℕ) → those (λ i. g (at (those f marks n) i)) (those f rows n) (count_to f n) ≡ those (λ i. f i && g (at marks i)) rows n
  unfolding those count_to
  those-those zero = refl
  those-those (suc n) = elim (true_or_false (f n)) [
    | inl e ↦
        rw e
        (one_more (those f marks n) (those f rows n) (at marks n) (at rows n) (count_to f n) (length-those f marks n) (length-those f rows n)
        ∙ ap (λ (l : List ℕ). l ++ cond (g (at marks n)) (at rows n ∷ []) []) (those-those n))
    | inr e ↦ simp (e, append-nil) (those-those n)
  ]

-- ---- all but those number a to b - 1

module _ (K : List ℕ) (x a b c : ℕ) (e : length K ≡ c) (ab : a ≤ b) where
  last_cut : (p q : Bool) → leb a c ≡ p → ltb c b ≡ q
      → (take a K ++ drop b K) ++ cond (not (p && q) && true) (x ∷ []) [] ≡ take a (K ++ (x ∷ [])) ++ drop b (K ++ (x ∷ []))
  last_cut false q u v =
      let h : c < a = leb-false a c u in
      let long : length (K ++ (x ∷ [])) ≡ suc c = simp length-append (omega arith) in
      rw (
        take_all a K (omega arith),
        drop_of_length-le K {i = b} (omega arith),
        take_all a (K ++ (x ∷ [])) (omega arith),
        drop_of_length-le (K ++ (x ∷ [])) {i = b} (omega arith),
      ) (simp append-nil)
  last_cut true true u v =
      let h : a ≤ c = leb-true a c u in
      let k : c < b = ltb-true c b v in
      let long : length (K ++ (x ∷ [])) ≡ suc c = simp length-append (omega arith) in
      rw (
        drop_of_length-le K {i = b} (omega arith),
        take-append-le a K (x ∷ []) (omega arith),
        drop_of_length-le (K ++ (x ∷ [])) {i = b} (omega arith),
      ) (simp append-nil)
  last_cut true false u v =
      let h : a ≤ c = leb-true a c u in
      let k : b ≤ c = ltb-false c b v in
      rw (take-append-le a K (x ∷ []) (omega arith), drop-append-le b K (x ∷ []) (omega arith)) (append_assoc (take a K) (drop b K) (x ∷ []))

module _ (g : ℕ → Bool) (rows : List ℕ) (a b : ℕ) (ab : a ≤ b) where
  pub those_cut : (n : ℕ)
      → those (λ i. not (g i && (leb a (count_to g i) && ltb (count_to g i) b)) && g i) rows n ≡ take a (those g rows n) ++ drop b (those g rows n)
  unfolding those
  those_cut zero = rw (take-nil, drop-nil)
  those_cut (suc n) = elim (true_or_false (g n)) [
    | inl e ↦
        (let c = count_to g n in
        rw (e, those_cut n) (last_cut (those g rows n) (at rows n) a b c (length-those g rows n) ab (leb a c) (ltb c b) refl refl))
    | inr e ↦ simp (e, append-nil) (those_cut n)
  ]
