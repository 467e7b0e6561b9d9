-- Different rows of a list and the whole list: their ranks differ by no more than their lengths. A rank is at most d. Assumes nothing.
use Prim.Native.Nat.{ℕ, zero, suc, ◌+◌, ◌≤◌, ◌<◌}
use mathlib.Core.Path.{◌≡◌, refl, sym, ap, ◌∙◌, subst}
use mathlib.Core.Logic.{◌≢◌, ◌⊎◌, inl, inr}
use mathlib.Core.List.Memᴰ
use mathlib.Core.List.{List, [], ◌∷◌, Memᴰ}
use native.Mathlib.Nat.{le_of_suc-le-suc, not-suc-le-zero, suc_inj, suc-ne-zero}
use native.Mathlib.Omega.{arith}
use lib.ListN.{length}
use Rattle.theory.specs.Pairings.{size, rank, at, In, Seated, Pairing}
use Rattle.theory.specs.Code.Search.{Different}
use Rattle.theory.proofs.Places.{mem_place}
use Rattle.theory.proofs.PairingSteps.{pairing_nil, pairing_none, pairing_mate}
use Rattle.theory.proofs.Sizes.{size_by_rows, size_by_d}
use Rattle.theory.proofs.Enumerations.{rank_bound, rank_met}

-- ---- a list without its place i

unfoldable pub without : List ℕ → ℕ → List ℕ
without [] i = []
without (x ∷ l) zero = l
without (x ∷ l) (suc i) = x ∷ without l i

-- where its place j was
was : ℕ → ℕ → ℕ
was zero j = suc j
was (suc i) zero = zero
was (suc i) (suc j) = suc (was i j)

at-without : (l : List ℕ) (i j : ℕ) → at (without l i) j ≡ at l (was i j)
unfolding without was
at-without [] i j = refl
at-without (x ∷ l) zero j = refl
at-without (x ∷ l) (suc i) zero = refl
at-without (x ∷ l) (suc i) (suc j) = at-without l i j

was_apart : (i j k : ℕ) → was i j ≡ was i k → j ≡ k
unfolding was
was_apart zero j k e = suc_inj e
was_apart (suc i) zero zero e = refl
was_apart (suc i) zero (suc k) e = absurd (suc-ne-zero (was i k) (sym e))
was_apart (suc i) (suc j) zero e = absurd (suc-ne-zero (was i j) e)
was_apart (suc i) (suc j) (suc k) e = ap suc (was_apart i j k (suc_inj e))

was_other : (i j : ℕ) → was i j ≡ i → ⊥
unfolding was
was_other zero j e = suc-ne-zero j e
was_other (suc i) zero e = suc-ne-zero i (sym e)
was_other (suc i) (suc j) e = was_other i j (suc_inj e)

length_without : (l : List ℕ) (i : ℕ) → i < length l → suc (length (without l i)) ≡ length l
unfolding without
length_without [] i h = absurd (not-suc-le-zero h)
length_without (x ∷ l) zero h = refl
length_without (x ∷ l) (suc i) h = ap suc (length_without l i (le_of_suc-le-suc h))

size-without : (l : List ℕ) (i : ℕ) → i < length l → size l ≡ size (at l i ∷ without l i)
unfolding without size
size-without [] i h = absurd (not-suc-le-zero h)
size-without (x ∷ l) zero h = refl
size-without (x ∷ l) (suc i) h = front x l (at l i ∷ without l i) (size-without l i (le_of_suc-le-suc h)) ∙ turn (at l i) x (without l i)
  where
    front : (y : ℕ) (s t : List ℕ) → size s ≡ size t → size (y ∷ s) ≡ size (y ∷ t)
    front zero s t e = e
    front (suc y) s t e = ap suc e

    turn : (y z : ℕ) (s : List ℕ) → size (z ∷ y ∷ s) ≡ size (y ∷ z ∷ s)
    turn zero zero s = refl
    turn zero (suc z) s = refl
    turn (suc y) zero s = refl
    turn (suc y) (suc z) s = refl

mem-without : (l : List ℕ) (i z : ℕ) → z ≢ at l i → Memᴰ z l → Memᴰ z (without l i)
unfolding without
mem-without [] i z n m = m
mem-without (x ∷ l) zero z n m = elim (Memᴰ.cases_cons m) [ inl e ↦ absurd (n e) | inr k ↦ k ]
mem-without (x ∷ l) (suc i) z n m = go (λ k. mem-without l i z n k) (Memᴰ.cases_cons m)
  where
    go : (Memᴰ z l → Memᴰ z (without l i)) → (z ≡ x) ⊎ Memᴰ z l → Memᴰ z (x ∷ without l i)
    go rec (inl e) = Memᴰ.head e
    go rec (inr k) = Memᴰ.tail (rec k)

pairing_without : (d : ℕ) (rows p : List ℕ) (i : ℕ) → i < length rows → Pairing d rows p → Pairing d (without rows i) (without p i)
pairing_without d rows p i h P =
    record {
      fits = omega (arith, P.fits, length_without rows i h, length_without p i (omega (arith, P.fits)));
      holds = λ j v e. subst (λ (r : ℕ). In d r v) (sym (at-without rows i j)) (P.holds (was i j) v (sym (at-without p i j) ∙ e));
      apart = λ j k v e f. was_apart i j k (P.apart (was i j) (was i k) v (sym (at-without p i j) ∙ e) (sym (at-without p i k) ∙ f));
    }

-- ---- different rows of a list

-- a pairing of the rows qs, with values of p, that lacks at most one mate for each row left out
record Left (d : ℕ) (rows p qs : List ℕ) : Type 0 where
  mates : List ℕ
  pairing : Pairing d qs mates
  inside : (v : ℕ) → Seated mates v → Seated p v
  sizes : size p + length qs ≤ size mates + length rows

left : (d : ℕ) (qs rows p : List ℕ) → Different qs → ((x : ℕ) → Memᴰ x qs → Memᴰ x rows) → Pairing d rows p → Left d rows p qs
unfolding size
left d [] rows p D sub P =
    record {
      mates = [];
      pairing = pairing_nil d;
      inside = λ v s. absurd (suc-ne-zero v (sym s.1));
      sizes = omega (arith, size_by_rows p, P.fits);
    }
left d (x ∷ qs) rows p D sub P = go (at p i) refl (left d qs (without rows i) (without p i) D.1 rest (pairing_without d rows p i t.1 P))
  where
    t : (i : ℕ) × (i < length rows) × (x ≡ at rows i)
    t = mem_place rows x (sub x (Memᴰ.head refl))

    i : ℕ
    i = t.0

    rest : (y : ℕ) → Memᴰ y qs → Memᴰ y (without rows i)
    rest y m = mem-without rows i y (λ e. D.0 (subst (λ (z : ℕ). Memᴰ z qs) (e ∙ sym t.2) m)) (sub y (Memᴰ.tail m))

    ip : i < length p
    ip = omega (arith, t.1, P.fits)

    back : (v : ℕ) → Seated (without p i) v → Seated p v
    back v s = (was i s.0, sym (at-without p i s.0) ∙ s.1)

    sizes_with : (y : ℕ) → at p i ≡ y → size p ≡ size (y ∷ without p i)
    sizes_with y e = size-without p i ip ∙ ap (λ (z : ℕ). size (z ∷ without p i)) e

    go : (y : ℕ) → at p i ≡ y → Left d (without rows i) (without p i) qs → Left d rows p (x ∷ qs)
    go zero e T =
        record {
          mates = zero ∷ T.mates;
          pairing = pairing_none d x qs T.mates T.pairing;
          inside = λ v s. back v (T.inside v (later v s.0 s.1));
          sizes = omega (arith, sizes_with zero e, T.sizes, length_without rows i t.1);
        }
      where
        later : (v j : ℕ) → at (zero ∷ T.mates) j ≡ suc v → Seated T.mates v
        later v zero f = absurd (suc-ne-zero v (sym f))
        later v (suc j) f = (j, f)
    go (suc w) e T =
        record {
          mates = suc w ∷ T.mates;
          pairing = pairing_mate d x qs T.mates w (subst (λ (r : ℕ). In d r w) (sym t.2) (P.holds i w e)) new T.pairing;
          inside = λ v s. inn v s.0 s.1;
          sizes = omega (arith, sizes_with (suc w) e, T.sizes, length_without rows i t.1);
        }
      where
        new : Seated T.mates w → ⊥
        new s = let k = T.inside w s in was_other i k.0 (P.apart (was i k.0) i w (sym (at-without p i k.0) ∙ k.1) e)

        inn : (v j : ℕ) → at (suc w ∷ T.mates) j ≡ suc v → Seated p v
        inn v zero f = (i, e ∙ f)
        inn v (suc j) f = back v (T.inside v (j, f))

pub rank_fewer : (d : ℕ) (qs rows : List ℕ) → Different qs → ((x : ℕ) → Memᴰ x qs → Memᴰ x rows)
    → rank d rows + length qs ≤ rank d qs + length rows
rank_fewer d qs rows D sub =
    let h = rank_met d rows in
    let t = left d qs rows h.0 D sub h.1 in
    omega (arith, h.2, t.sizes, rank_bound d qs t.mates t.pairing)

pub rank-at_most : (d : ℕ) (rows : List ℕ) → rank d rows ≤ d
rank-at_most d rows = let h = rank_met d rows in omega (arith, h.2, size_by_d d h.0 h.1.apart (λ i v e. (h.1.holds i v e).0))
