-- Which rows the first step marks, said by place: those that no other row strikes out. Assumes nothing.
use Prim.Native.Nat.{ℕ, zero, suc, ◌≤◌, ◌<◌}
use mathlib.Core.Path.{◌≡◌, sym, ◌∙◌, subst}
use mathlib.Core.Logic.{◌⊎◌, inl, inr}
use mathlib.Core.Bool.{true, false, not, ◌&&◌, false≢true}
use mathlib.Core.List.{List, [], ◌∷◌}
use native.Mathlib.Nat.{not-suc-le-zero, le_of_suc-le-suc}
use native.Mathlib.Omega.{arith}
use lib.Dec.{eqb}
use lib.ListN.{length, take}
use lib.Seq.{length-take-le, get_or-take}
use borrow.Author.Tests.{eqb-true, eq-eqb, not-true}
use Rattle.sets.specs.Sets.{subset, proper}
use Rattle.sets.proofs.Bools.{and_left, and_right, and_both, or_cases, or_left, or_right, true_or_false, not_both, is_false, false_not}
use Rattle.sets.proofs.Subsets.{subset_refl, proper-subset, proper_less, subset_same}
use Rattle.theory.specs.Pairings.{at, among}
use Rattle.theory.specs.Kept.{marked, minimal, firsts}
use Rattle.theory.proofs.Places.{mem_place}
use Rattle.theory.proofs.MinimalRows.{minimal?, firsts_at}

-- row j strikes out row i: it is a subset of it, and stands earlier where they are equal
abbrev pub Strikes : List ℕ → ℕ → ℕ → Type 0
Strikes rows j i = (subset (at rows j) (at rows i) ≡ true) × (at rows j ≡ at rows i → j < i)

pub equal_strikes : (rows : List ℕ) (j i : ℕ) → at rows j ≡ at rows i → j < i → Strikes rows j i
equal_strikes rows j i e h = (subst (λ (x : ℕ). subset (at rows j) x ≡ true) e (subset_refl (at rows j)), λ _. h)

pub proper_strikes : (rows : List ℕ) (j i : ℕ) → proper (at rows j) (at rows i) ≡ true → Strikes rows j i
proper_strikes rows j i p = (proper-subset (at rows j) (at rows i) p, λ e. absurd (omega (arith, proper_less (at rows j) (at rows i) p)))

-- ---- by place

minimal-at : (view : List ℕ) (r j : ℕ) → j < length view → minimal view r ≡ true → proper (at view j) r ≡ false
unfolding minimal
minimal-at [] r j h e = absurd (not-suc-le-zero h)
minimal-at (a ∷ view) r zero h e = not-true (proper a r) (and_left (not (proper a r)) (minimal view r) e)
minimal-at (a ∷ view) r (suc j) h e = minimal-at view r j (le_of_suc-le-suc h) (and_right (not (proper a r)) (minimal view r) e)

among_out : (l : List ℕ) (x : ℕ) → among x l ≡ true → (j : ℕ) × (j < length l) × (at l j ≡ x)
unfolding among
among_out [] x e = absurd (false≢true e)
among_out (y ∷ l) x e = go (λ k. among_out l x k) (or_cases (eqb x y) (among x l) e)
  where
    go : (among x l ≡ true → (j : ℕ) × (j < length l) × (at l j ≡ x)) → (eqb x y ≡ true) ⊎ (among x l ≡ true)
        → (j : ℕ) × (j < suc (length l)) × (at (y ∷ l) j ≡ x)
    go rec (inl p) = (zero, omega arith, sym (eqb-true x y p))
    go rec (inr q) = let t = rec q in (suc t.0, omega (arith, t.1), t.2)

among_in : (l : List ℕ) (x j : ℕ) → j < length l → at l j ≡ x → among x l ≡ true
unfolding among
among_in [] x j h e = absurd (not-suc-le-zero h)
among_in (y ∷ l) x zero h e = or_left (eqb x y) (among x l) (eq-eqb x y (sym e))
among_in (y ∷ l) x (suc j) h e = or_right (eqb x y) (among x l) (among_in l x j (le_of_suc-le-suc h) e)

-- ---- the marks

module _ (rows : List ℕ) (i : ℕ) (h : i < length rows) where
  before : length (take i rows) ≡ i
  before = let l : i ≤ length rows = omega arith in length-take-le i rows l

  pub first_yes : ((j : ℕ) → j < length rows → Strikes rows j i → ⊥) → marked (firsts rows) i ≡ true
  first_yes spared =
      firsts_at rows i h
      ∙ and_both (minimal rows (at rows i)) (not (among (at rows i) (take i rows))) least (false_not (among (at rows i) (take i rows)) new)
    where
      least : minimal rows (at rows i) ≡ true
      least = elim (minimal? rows (at rows i)) [
        | inl e ↦ e
        | inr t ↦
            let p = mem_place rows t.0 t.1 in
            absurd (spared p.0 p.1 (proper_strikes rows p.0 i (subst (λ (x : ℕ). proper x (at rows i) ≡ true) p.2 t.2)))
      ]

      new : among (at rows i) (take i rows) ≡ false
      new = is_false (among (at rows i) (take i rows)) (λ e.
          let t = among_out (take i rows) (at rows i) e in
          let l : t.0 < i = omega (arith, t.1, before) in
          spared t.0 (omega arith) (equal_strikes rows t.0 i (sym (get_or-take i rows t.0 zero l) ∙ t.2) l))

  pub first_no : (j : ℕ) → j < length rows → Strikes rows j i → marked (firsts rows) i ≡ false
  first_no j l (inside, earlier) =
      firsts_at rows i h
      ∙ is_false (minimal rows (at rows i) && not (among (at rows i) (take i rows))) (λ e. go e (true_or_false (proper (at rows j) (at rows i))))
    where
      go : (minimal rows (at rows i) && not (among (at rows i) (take i rows))) ≡ true
          → (proper (at rows j) (at rows i) ≡ true) ⊎ (proper (at rows j) (at rows i) ≡ false) → ⊥
      go e (inl p) = not_both p (minimal-at rows (at rows i) j l (and_left (minimal rows (at rows i)) (not (among (at rows i) (take i rows))) e))
      go e (inr p) =
          let same = subset_same (at rows j) (at rows i) inside p in
          let k : j < i = earlier same in
          not_both (among_in (take i rows) (at rows i) j (omega (arith, before)) (get_or-take i rows j zero k ∙ same))
          (not-true (among (at rows i) (take i rows)) (and_right (minimal rows (at rows i)) (not (among (at rows i) (take i rows))) e))
