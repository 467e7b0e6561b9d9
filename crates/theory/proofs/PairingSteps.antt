-- Pairings changed at one row: a value is put there, a mate is given up; and pairings of a list a row at a time. Assumes nothing.
use Prim.Native.Nat.{ℕ, zero, suc, ◌≤◌, ◌<◌}
use mathlib.Core.Path.{◌≡◌, refl, sym, ap, ◌∙◌, subst}
use mathlib.Core.Logic.{◌≢◌, inl, inr}
use mathlib.Core.List.{List, [], ◌∷◌}
use native.Mathlib.Nat.{suc_inj, suc-ne-zero}
use native.Mathlib.Omega.{arith}
use lib.ListN.{length, set, length-set}
use Rattle.theory.specs.Pairings.{size, at, In, Seated, Pairing, Largest}
use Rattle.theory.proofs.Places.{Mate, mate?, not_mate, Stored, stored, size_more}

module _ (d : ℕ) (rows : List ℕ) where
  -- a value that has no row is put at a row that holds it; the row's own mate, if it had one, is without a row then
  pub pairing_put : (p : List ℕ) (i v : ℕ) → Pairing d rows p → i < length p → In d (at rows i) v → (Seated p v → ⊥)
      → Pairing d rows (set p i (suc v))
  pairing_put p i v P h inn new =
      record {
        fits = length-set p i (suc v) ∙ P.fits;
        holds = λ j w e. hold j w e (stored p i (suc v) j h);
        apart = λ j k w e f. one j k w e f (stored p i (suc v) j h) (stored p i (suc v) k h);
      }
    where
      q : List ℕ
      q = set p i (suc v)

      hold : (j w : ℕ) → at q j ≡ suc w → Stored p i (suc v) j → In d (at rows j) w
      hold j w e (inl (ji, x)) = subst (λ (k : ℕ). In d (at rows k) w) (sym ji) (subst (In d (at rows i)) (suc_inj (sym x ∙ e)) inn)
      hold j w e (inr (ne, x)) = P.holds j w (sym x ∙ e)

      one : (j k w : ℕ) → at q j ≡ suc w → at q k ≡ suc w → Stored p i (suc v) j → Stored p i (suc v) k → j ≡ k
      one j k w e f (inl (ji, x)) (inl (ki, y)) = ji ∙ sym ki
      one j k w e f (inl (ji, x)) (inr (nk, y)) = absurd (new (k, sym y ∙ f ∙ sym e ∙ x))
      one j k w e f (inr (nj, x)) (inl (ki, y)) = absurd (new (j, sym x ∙ e ∙ sym f ∙ y))
      one j k w e f (inr (nj, x)) (inr (nk, y)) = P.apart j k w (sym x ∙ e) (sym y ∙ f)

  -- row i gives its mate up
  pub left_over : (p : List ℕ) (i j w : ℕ) → i < length p → at (set p i zero) j ≡ suc w → (j ≢ i) × (at p j ≡ suc w)
  left_over p i j w h e = go (stored p i zero j h)
    where
      go : Stored p i zero j → (j ≢ i) × (at p j ≡ suc w)
      go (inl (ji, x)) = absurd (not_mate x e)
      go (inr (ne, x)) = (ne, sym x ∙ e)

  pub pairing_drop : (p : List ℕ) (i : ℕ) → Pairing d rows p → i < length p → Pairing d rows (set p i zero)
  pairing_drop p i P h =
      record {
        fits = length-set p i zero ∙ P.fits;
        holds = λ j w e. P.holds j w (left_over p i j w h e).1;
        apart = λ j k w e f. P.apart j k w (left_over p i j w h e).1 (left_over p i k w h f).1;
      }

  -- where a largest pairing leaves a value without a row, each row that holds the value has a mate
  pub taken : (p : List ℕ) (i v : ℕ) → Pairing d rows p → Largest d rows p → i < length p → In d (at rows i) v → (Seated p v → ⊥)
      → (w : ℕ) × (at p i ≡ suc w)
  taken p i v P L h inn new = go (mate? (at p i))
    where
      go : Mate (at p i) → (w : ℕ) × (at p i ≡ suc w)
      go (inr t) = t
      go (inl e) =
          let bound : size (set p i (suc v)) ≤ size p = L (set p i (suc v)) (pairing_put p i v P h inn new) in
          absurd (omega (arith, size_more p i v h e))

-- ---- a row at a time

pub pairing_nil : (d : ℕ) → Pairing d [] []
pairing_nil d = record { fits = refl; holds = λ i v e. absurd (suc-ne-zero v (sym e)); apart = λ i j v e f. absurd (suc-ne-zero v (sym e)) }

module _ (d r : ℕ) (rows p : List ℕ) where
  pub pairing_tail : (x : ℕ) → Pairing d (r ∷ rows) (x ∷ p) → Pairing d rows p
  pairing_tail x P =
      record { fits = suc_inj P.fits; holds = λ i v e. P.holds (suc i) v e; apart = λ i j v e f. suc_inj (P.apart (suc i) (suc j) v e f) }

  pub pairing_head : (v : ℕ) → Pairing d (r ∷ rows) (suc v ∷ p) → In d r v × (Seated p v → ⊥)
  pairing_head v P = (P.holds zero v refl, λ s. suc-ne-zero s.0 (sym (P.apart zero (suc s.0) v refl s.1)))

  -- a row with no mate in front
  pub pairing_none : Pairing d rows p → Pairing d (r ∷ rows) (zero ∷ p)
  pairing_none P = record { fits = ap suc P.fits; holds = hold; apart = one }
    where
      hold : (i v : ℕ) → at (zero ∷ p) i ≡ suc v → In d (at (r ∷ rows) i) v
      hold zero v e = absurd (suc-ne-zero v (sym e))
      hold (suc i) v e = P.holds i v e

      one : (i j v : ℕ) → at (zero ∷ p) i ≡ suc v → at (zero ∷ p) j ≡ suc v → i ≡ j
      one zero j v e f = absurd (suc-ne-zero v (sym e))
      one (suc i) zero v e f = absurd (suc-ne-zero v (sym f))
      one (suc i) (suc j) v e f = ap suc (P.apart i j v e f)

  -- a row in front with the mate v, which no other row has
  pub pairing_mate : (v : ℕ) → In d r v → (Seated p v → ⊥) → Pairing d rows p → Pairing d (r ∷ rows) (suc v ∷ p)
  pairing_mate v inn new P = record { fits = ap suc P.fits; holds = hold; apart = one }
    where
      hold : (i w : ℕ) → at (suc v ∷ p) i ≡ suc w → In d (at (r ∷ rows) i) w
      hold zero w e = subst (In d r) (suc_inj e) inn
      hold (suc i) w e = P.holds i w e

      one : (i j w : ℕ) → at (suc v ∷ p) i ≡ suc w → at (suc v ∷ p) j ≡ suc w → i ≡ j
      one zero zero w e f = refl
      one zero (suc j) w e f = absurd (new (j, f ∙ sym e))
      one (suc i) zero w e f = absurd (new (i, e ∙ sym f))
      one (suc i) (suc j) w e f = ap suc (P.apart i j w e f)

-- a pairing of rows is one of rows that hold the same mates
pub pairing_move : (d : ℕ) (rows rows' p : List ℕ) → length rows ≡ length rows'
    → ((i v : ℕ) → at p i ≡ suc v → In d (at rows i) v → In d (at rows' i) v) → Pairing d rows p → Pairing d rows' p
pairing_move d rows rows' p e f P = record { fits = P.fits ∙ e; holds = λ i v h. f i v h (P.holds i v h); apart = P.apart }
