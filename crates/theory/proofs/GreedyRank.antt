-- The second step comes to the rank of the view: a row that does not raise the rank of the rows kept so far never will (from the swap of rows),
-- so once all were tried no row of the view can raise it. Assumes nothing.
use Prim.Native.Nat.{ℕ, zero, suc, ◌+◌, ◌≤◌, ◌<◌}
use mathlib.Core.Path.{◌≡◌, refl, sym, ap, ◌∙◌}
use mathlib.Core.Logic.{inl, inr}
use mathlib.Core.Bool.{Bool, true, false, not, cond}
use mathlib.Core.List.{List, map}
use native.Mathlib.Decide.{ℕ_discrete}
use native.Mathlib.Omega.{arith}
use lib.Dec.{eqb, ltb}
use lib.ListN.{length, set, length-set, length-map, get_or-map}
use lib.Seq.{set-get_or, set-set}
use borrow.Author.Tests.{ne_eqb, eq-eqb, ltb-true, ltb-false}
use Rattle.sets.proofs.Bools.{not_both}
use Rattle.theory.specs.Pairings.{size, rank, at, Pairing}
use Rattle.theory.specs.Kept.{marked, pick, try, tries}
use Rattle.theory.specs.Code.Search.{mask}
use Rattle.theory.proofs.Places.{Mate, mate?, not_mate, at_less, stored, size_more}
use Rattle.theory.proofs.Sizes.{size_by_places}
use Rattle.theory.proofs.Enumerations.{OfRank, rank_bound, rank_met}
use Rattle.theory.proofs.SwapRows.{RowsSwapped, swap_rows}
use Rattle.theory.proofs.Marks.{Fewer, mark_same, mark_keeps, mark_cases, length-mask, at-marked, mask_out, pairing_marked}
use Rattle.theory.proofs.Marks.{pairing_whole, pairing_mask, pairing_more, rank-mask, length_mark}

-- ---- the rows that have mates

-- a mark where p has a mate
pub mated : List ℕ → List Bool
mated p = map (λ (x : ℕ). not (eqb x zero)) p

mated_at : (p : List ℕ) (i : ℕ) → marked (mated p) i ≡ not (eqb (at p i) zero)
unfolding mated
mated_at p i = get_or-map (λ (x : ℕ). not (eqb x zero)) p i zero

pub mated_in : (p : List ℕ) (i v : ℕ) → at p i ≡ suc v → marked (mated p) i ≡ true
mated_in p i v e = mated_at p i ∙ ap not (ne_eqb (at p i) zero (λ z. not_mate z e))

pub mated_out : (p : List ℕ) (i : ℕ) → marked (mated p) i ≡ true → (v : ℕ) × (at p i ≡ suc v)
mated_out p i e = go (mate? (at p i))
  where
    go : Mate (at p i) → (v : ℕ) × (at p i ≡ suc v)
    go (inl z) = absurd (not_both e (mated_at p i ∙ ap not (eq-eqb (at p i) zero z)))
    go (inr t) = t

pub length_mated : (p : List ℕ) → length (mated p) ≡ length p
unfolding mated
length_mated p = length-map p (λ (x : ℕ). not (eqb x zero))

module _ (d : ℕ) (view : List ℕ) where
  -- the rank of the marked rows
  abbrev ρ : List Bool → ℕ
  ρ ms = rank d (mask ms view)

  -- row x raises the rank of the marked rows
  abbrev pub Raises : List Bool → ℕ → Type 0
  Raises ms x = ρ ms < ρ (set ms x true)

  -- the mates of p at the rows that have one in n, and at x: p has one wherever n has, and at x too
  restrict : (ms : List Bool) (n p : List ℕ) (x w : ℕ) → length ms ≡ length view → Pairing d (mask ms view) n → Pairing d view p
      → ((i v : ℕ) → at n i ≡ suc v → (u : ℕ) × (at p i ≡ suc u)) → at n x ≡ zero → at p x ≡ suc w
      → (q : List ℕ) × Pairing d (mask (set ms x true) view) q × (size n < size q)
  restrict ms n p x w fits N P up nx px = (q, pairing_mask d view q (set ms x true) on_marks part, larger)
    where
      xp : x < length p
      xp = at_less p x w px

      xn : x < length n
      xn = omega (arith, xp, P.fits, N.fits, length-mask ms view)

      seen : List Bool
      seen = set (mated n) x true

      q : List ℕ
      q = mask seen p

      part : Pairing d view q
      part = record {
        fits = length-mask seen p ∙ P.fits;
        holds = λ i v e. P.holds i v (mask_out seen p i v e).1;
        apart = λ i j v e f. P.apart i j v (mask_out seen p i v e).1 (mask_out seen p j v f).1;
      }

      on_marks : (i v : ℕ) → at q i ≡ suc v → marked (set ms x true) i ≡ true
      on_marks i v e = elim (mark_cases (mated n) x i (mask_out seen p i v e).0) [
        | inl s ↦ ap (marked (set ms x true)) s ∙ mark_same ms x (omega (arith, xp, P.fits, fits))
        | inr b ↦ let t = mated_out n i b in mark_keeps ms x i (pairing_marked d view n ms N i t.0 t.1)
      ]

      at_x : at q x ≡ suc w
      at_x = at-marked seen p x (mark_same (mated n) x (omega (arith, xn, length_mated n))) ∙ px

      places : (i v : ℕ) → at (set n x (suc w)) i ≡ suc v → (u : ℕ) × (at q i ≡ suc u)
      places i v e = elim (stored n x (suc w) i xn) [
        | inl s ↦ (w, ap (at q) s.0 ∙ at_x)
        | inr s ↦ let t = up i v (sym s.1 ∙ e) in (t.0, at-marked seen p i (mark_keeps (mated n) x i (mated_in n i v (sym s.1 ∙ e))) ∙ t.1)
      ]

      larger : size n < size q
      larger = omega (arith, size_by_places (set n x (suc w)) q places, size_more n x w xn nx)

  -- a row that is marked already raises nothing
  marked_raises : (ms : List Bool) (x : ℕ) → Raises ms x → marked ms x ≡ true → ⊥
  marked_raises ms x h e =
      let same : set ms x true ≡ ms = ap (set ms x) (sym e) ∙ set-get_or ms x false in
      let k : ρ (set ms x true) ≡ ρ ms = ap ρ same in
      omega arith

  -- a row that raises the rank of more rows raises that of fewer
  pub raises_fewer : (a b : List Bool) (x : ℕ) → length a ≡ length view → Fewer a b → Raises b x → Raises a x
  raises_fewer a b x fits sub h = omega (arith, q.2, met_a.2, rank_bound d (mask (set a x true) view) q.0 q.1)
    where
      b⁺ : List Bool
      b⁺ = set b x true

      met_a : OfRank d (mask a view)
      met_a = rank_met d (mask a view)

      met_b : OfRank d (mask b view)
      met_b = rank_met d (mask b view)

      met_c : OfRank d (mask b⁺ view)
      met_c = rank_met d (mask b⁺ view)

      n : List ℕ
      n = met_a.0

      -- a largest pairing of b's rows that uses n's rows, and one of b⁺'s that uses those
      over_b : (m : List ℕ) × RowsSwapped d (mask b view) n (pairing_more d view n a b sub met_a.1) m
      over_b =
          swap_rows d (mask b view) n (pairing_more d view n a b sub met_a.1) met_b.0 met_b.1
          (λ p P. omega (arith, rank_bound d (mask b view) p P, met_b.2))

      m : List ℕ
      m = over_b.0

      in_c : Pairing d (mask b⁺ view) m
      in_c = pairing_more d view m b b⁺ (mark_keeps b x) over_b.1.pairing

      over_c : (p : List ℕ) × RowsSwapped d (mask b⁺ view) m in_c p
      over_c = swap_rows d (mask b⁺ view) m in_c met_c.0 met_c.1 (λ p P. omega (arith, rank_bound d (mask b⁺ view) p P, met_c.2))

      p : List ℕ
      p = over_c.0

      -- without x it would be too large for b's rows
      at_x : (w : ℕ) × (at p x ≡ suc w)
      at_x = elim (mate? (at p x)) [ inr t ↦ t | inl z ↦ absurd (small z) ]
        where
          on_b : at p x ≡ zero → (i v : ℕ) → at p i ≡ suc v → marked b i ≡ true
          on_b z i v e = elim (mark_cases b x i (pairing_marked d view p b⁺ over_c.1.pairing i v e)) [
            | inl s ↦ absurd (not_mate (ap (at p) s ∙ z) e)
            | inr k ↦ k
          ]

          small : at p x ≡ zero → ⊥
          small z =
              let P : Pairing d (mask b view) p = pairing_mask d view p b (on_b z) (pairing_whole d view p b⁺ over_c.1.pairing) in
              omega (arith, h, rank_bound d (mask b view) p P, over_c.1.largest met_c.0 met_c.1, met_c.2)

      up : (i v : ℕ) → at n i ≡ suc v → (u : ℕ) × (at p i ≡ suc u)
      up i v e = let t = over_b.1.busy i v e in over_c.1.busy i t.0 t.1

      free : at n x ≡ zero
      free = elim (mate? (at n x)) [
        | inl z ↦ z
        | inr t ↦ absurd (marked_raises b x h (sub x (pairing_marked d view n a met_a.1 x t.0 t.1)))
      ]

      q : (q : List ℕ) × Pairing d (mask (set a x true) view) q × (size n < size q)
      q = restrict a n p x at_x.0 fits met_a.1 (pairing_whole d view p b⁺ over_c.1.pairing) up free at_x.1

  -- marked rows whose rank no row raises have the rank of the view
  pub unraised_rank : (ms : List Bool) → length ms ≡ length view → ((x : ℕ) → x < length view → Raises ms x → ⊥) → rank d (pick ms view) ≡ rank d view
  unraised_rank ms fits none = omega (arith, rank-mask d ms view, below, above)
    where
      met : OfRank d (mask ms view)
      met = rank_met d (mask ms view)

      n : List ℕ
      n = met.0

      N : Pairing d view n
      N = pairing_whole d view n ms met.1

      below : ρ ms ≤ rank d view
      below = omega (arith, met.2, rank_bound d view n N)

      all : OfRank d view
      all = rank_met d view

      over : (m : List ℕ) × RowsSwapped d view n N m
      over = swap_rows d view n N all.0 all.1 (λ p P. omega (arith, rank_bound d view p P, all.2))

      p : List ℕ
      p = over.0

      same_rows : (i v : ℕ) → at p i ≡ suc v → (w : ℕ) × (at n i ≡ suc w)
      same_rows i v e = elim (mate? (at n i)) [
        | inr t ↦ t
        | inl z ↦
            let q = restrict ms n p i v fits met.1 over.1.pairing over.1.busy z e in
            absurd
            (none i (omega (arith, at_less p i v e, over.1.pairing.fits))
            (omega (arith, q.2, met.2, rank_bound d (mask (set ms i true) view) q.0 q.1)))
      ]

      above : rank d view ≤ ρ ms
      above = omega (arith, all.2, met.2, over.1.largest all.0 all.1, size_by_places p n same_rows)

  -- ---- the tries

  -- from the marks a the marks b are reached, when the rows before place `end` have been tried
  pub record Reached (a b : List Bool) (end : ℕ) : Type 0 where
    pub fits : length b ≡ length view
    pub more : Fewer a b
    pub settled : (x : ℕ) → x < end → Raises b x → ⊥
    pub cost : length (pick b view) + rank d (pick a view) ≤ length (pick a view) + rank d (pick b view)

  try_reached : (ms : List Bool) (i : ℕ) → length ms ≡ length view → ((x : ℕ) → x < i → Raises ms x → ⊥) → Reached ms (try d view ms i) (suc i)
  unfolding try
  try_reached ms i fits before = go (ltb (rank d (pick ms view)) (rank d (pick (set ms i true) view))) refl
    where
      ms⁺ : List Bool
      ms⁺ = set ms i true

      kept : (x : ℕ) → x < suc i → Raises ms⁺ x → ⊥
      kept x h k = elim (ℕ_discrete x i) [
        | yes s ↦
            let same : set ms⁺ x true ≡ ms⁺ = ap (λ (y : ℕ). set ms⁺ y true) s ∙ set-set ms i true true in
            let r : ρ (set ms⁺ x true) ≡ ρ ms⁺ = ap ρ same in
            omega arith
        | no n ↦ before x (omega arith) (raises_fewer ms ms⁺ x fits (mark_keeps ms i) k)
      ]

      passed : rank d (pick ms⁺ view) ≤ rank d (pick ms view) → (x : ℕ) → x < suc i → Raises ms x → ⊥
      passed f x h k = elim (ℕ_discrete x i) [
        | yes s ↦ let r : ρ (set ms x true) ≡ ρ ms⁺ = ap (λ (y : ℕ). ρ (set ms y true)) s in omega (arith, rank-mask d ms view, rank-mask d ms⁺ view)
        | no n ↦ before x (omega arith) k
      ]

      go : (b : Bool) → ltb (rank d (pick ms view)) (rank d (pick ms⁺ view)) ≡ b → Reached ms (cond b ms⁺ ms) (suc i)
      go true e = record {
        fits = length-set ms i true ∙ fits;
        more = mark_keeps ms i;
        settled = kept;
        cost = omega (arith, ltb-true (rank d (pick ms view)) (rank d (pick ms⁺ view)) e, length_mark ms view i);
      }
      go false e = record {
        fits = fits;
        more = λ x f. f;
        settled = passed (ltb-false (rank d (pick ms view)) (rank d (pick ms⁺ view)) e);
        cost = omega arith;
      }

  pub tries_reached : (n i : ℕ) (ms : List Bool) → length ms ≡ length view → ((x : ℕ) → x < i → Raises ms x → ⊥)
      → Reached ms (tries d view n i ms) (i + n)
  unfolding tries
  tries_reached zero i ms fits before = record { fits = fits; more = λ x f. f; settled = λ x h. before x (omega arith); cost = omega arith }
  tries_reached (suc n) i ms fits before =
      let g : Reached ms (try d view ms i) (suc i) = try_reached ms i fits before in
      let h : Reached (try d view ms i) (tries d view n (suc i) (try d view ms i)) (suc i + n) =
      tries_reached n (suc i) (try d view ms i) g.fits g.settled in
      record {
        fits = h.fits;
        more = λ x f. h.more x (g.more x f);
        settled = λ x k. h.settled x (omega arith);
        cost = omega (arith, g.cost, h.cost);
      }
