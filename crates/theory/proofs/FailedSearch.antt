-- When a search has failed, its closed set of asked rows shows that the pairing at hand is a largest one:
-- any other pairing q, with p's mates at the asked rows in place of its own, has as many mates and only values of p. Assumes nothing.
use Prim.Native.Nat.{ℕ, zero, suc, ◌≤◌}
use mathlib.Core.Path.{◌≡◌, refl, sym, ap, ◌∙◌, subst}
use mathlib.Core.Logic.{◌⊎◌, inl, inr}
use mathlib.Core.Bool.{Bool, true, false, cond}
use mathlib.Core.List.{List, [], ◌∷◌}
use native.Mathlib.Omega.{arith}
use lib.ListN.{length}
use Rattle.sets.proofs.Bools.{true_or_false, not_both}
use Rattle.theory.specs.Pairings.{size, at, In, Seated, Pairing, Largest}
use Rattle.theory.specs.Code.Search.{Closed, Tried}
use Rattle.theory.proofs.Places.{past, seated?}
use Rattle.theory.proofs.Sizes.{size_by_places, size_by_values}

-- ---- a list by its places

table : ℕ → (ℕ → ℕ) → List ℕ
table zero f = []
table (suc n) f = f zero ∷ table n (λ i. f (suc i))

at_table : (n : ℕ) (f : ℕ → ℕ) → ((i : ℕ) → n ≤ i → f i ≡ zero) → (i : ℕ) → at (table n f) i ≡ f i
unfolding table
at_table zero f z i = sym (z i (omega arith))
at_table (suc n) f z zero = refl
at_table (suc n) f z (suc i) = at_table n (λ j. f (suc j)) (λ j h. z (suc j) (omega arith)) i

module _ (d : ℕ) (rows p : List ℕ) (P : Pairing d rows p) (asked : ℕ → Bool) (closed : Closed d rows p asked) (tried : Tried d rows p asked) where
  module _ (q : List ℕ) (Q : Pairing d rows q) where
    -- p's mate at a row that was asked, and q's at the others
    mixed : ℕ → ℕ
    mixed i = cond (asked i) (at p i) (at q i)

    mix : List ℕ
    mix = table (length rows) mixed

    at_mix : (i : ℕ) → at mix i ≡ mixed i
    unfolding mix mixed
    at_mix i = at_table (length rows) mixed (λ j h. none j (asked j) (omega (arith, h, P.fits)) (omega (arith, h, Q.fits))) i
      where
        none : (j : ℕ) (b : Bool) → length p ≤ j → length q ≤ j → cond b (at p j) (at q j) ≡ zero
        none j true hp hq = past p j hp
        none j false hp hq = past q j hq

    at_asked : (i : ℕ) → asked i ≡ true → at mix i ≡ at p i
    unfolding mixed
    at_asked i e = at_mix i ∙ ap (λ (b : Bool). cond b (at p i) (at q i)) e

    at_left : (i : ℕ) → asked i ≡ false → at mix i ≡ at q i
    unfolding mixed
    at_left i e = at_mix i ∙ ap (λ (b : Bool). cond b (at p i) (at q i)) e

    -- where a mate of the mix comes from
    From : ℕ → ℕ → Type 0
    From i v = ((asked i ≡ true) × (at p i ≡ suc v)) ⊎ ((asked i ≡ false) × (at q i ≡ suc v))

    from : (i v : ℕ) → at mix i ≡ suc v → From i v
    unfolding From
    from i v e = elim (true_or_false (asked i)) [
      | inl a ↦ inl (a, sym (at_asked i a) ∙ e)
      | inr a ↦ inr (a, sym (at_left i a) ∙ e)
    ]

    -- a value of an asked row of p is held by asked rows alone
    heard : (i j v : ℕ) → asked i ≡ true → at p i ≡ suc v → In d (at rows j) v → asked j ≡ true
    heard i j v a e inn = let t = closed i a in let same : suc t.0 ≡ suc v = sym t.1 ∙ e in t.2 j (subst (In d (at rows j)) (omega arith) inn)

    mix_apart : (i j v : ℕ) → at mix i ≡ suc v → at mix j ≡ suc v → i ≡ j
    unfolding From
    mix_apart i j v e f = go (from i v e) (from j v f)
      where
        go : From i v → From j v → i ≡ j
        go (inl a) (inl b) = P.apart i j v a.1 b.1
        go (inl a) (inr b) = absurd (not_both (heard i j v a.0 a.1 (Q.holds j v b.1)) b.0)
        go (inr a) (inl b) = absurd (not_both (heard j i v b.0 b.1 (Q.holds i v a.1)) a.0)
        go (inr a) (inr b) = Q.apart i j v a.1 b.1

    -- a value that has no row in p has asked every row that holds it
    mix_inside : (v : ℕ) → Seated mix v → Seated p v
    unfolding From
    mix_inside v (i, e) = elim (from i v e) [
      | inl a ↦ (i, a.1)
      | inr b ↦ elim (seated? p v) [
        | inl s ↦ s
        | inr none ↦ let inn = Q.holds i v b.1 in absurd (not_both (tried v inn.0 none i inn) b.0)
      ]
    ]

    mix_places : (i v : ℕ) → at q i ≡ suc v → (w : ℕ) × (at mix i ≡ suc w)
    mix_places i v e = elim (true_or_false (asked i)) [
      | inl a ↦ let t = closed i a in (t.0, at_asked i a ∙ t.1)
      | inr a ↦ (v, at_left i a ∙ e)
    ]

    no_larger : size q ≤ size p
    no_larger = omega (arith, size_by_places q mix mix_places, size_by_values mix p mix_apart mix_inside)

  pub failed_largest : Largest d rows p
  failed_largest q Q = no_larger q Q
