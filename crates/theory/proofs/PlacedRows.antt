-- Pairings of the rows at listed positions of a view, as a program keeps them: their largest size, and what the next row does to it. Assumes nothing.
use Prim.Native.Nat.{ℕ, zero, suc, ◌+◌, ◌≤◌, ◌<◌}
use mathlib.Core.Path.{◌≡◌, refl, sym, ap, ◌∙◌, subst}
use mathlib.Core.Logic.{inl, inr}
use mathlib.Core.Bool.{Bool, true, false, cond}
use mathlib.Core.List.Memᴰ
use mathlib.Core.List.{List, [], ◌∷◌, ◌++◌, map, Memᴰ}
use native.Mathlib.Nat.{not-suc-le-zero, le_of_suc-le-suc, suc-ne-zero}
use native.Mathlib.Decide.{dec_lt}
use native.Mathlib.Omega.{arith}
use lib.ListN.{length, set, length-set, length-map, length-append, replicate, length-replicate, get_or-eq_default}
use borrow.Author.Tests.{lt-ltb, le-ltb}
use Rattle.sets.proofs.Bools.{not_both}
use Rattle.theory.specs.Pairings.{size, rank, at, In, Seated, Pairing}
use Rattle.theory.specs.Kept.{marked, pick, try, rows_at}
use Rattle.theory.specs.Code.Search.{mask, Different, Stands}
use Rattle.theory.proofs.Places.{mate?, not_mate, at_less, mem_place, stored, size_more}
use Rattle.theory.proofs.PairingSteps.{pairing_put, pairing_tail, pairing_head}
use Rattle.theory.proofs.Sizes.{size_by_values}
use Rattle.theory.proofs.Enumerations.{OfRank, rank_bound, rank_met}
use Rattle.theory.proofs.Marks.{Fewer, mem-at, mark_same, mark_keeps, mark_cases, pairing_marked, pairing_whole, pairing_mask, rank-mask}
use Rattle.theory.proofs.GreedyRank.{Raises, raises_fewer, mated, mated_in, mated_out, length_mated}
use Rattle.theory.proofs.NextRow.{rank_step}

-- ---- lists of different numbers

at_map : (f : ℕ → ℕ) (is : List ℕ) (k : ℕ) → k < length is → at (map f is) k ≡ f (at is k)
at_map f [] k h = absurd (not-suc-le-zero h)
at_map f (i ∷ is) zero h = refl
at_map f (i ∷ is) (suc k) h = at_map f is k (le_of_suc-le-suc h)

different_apart : (is : List ℕ) → Different is → (j k : ℕ) → j < length is → k < length is → at is j ≡ at is k → j ≡ k
different_apart [] D j k hj hk e = absurd (not-suc-le-zero hj)
different_apart (i ∷ is) D zero zero hj hk e = refl
different_apart (i ∷ is) D zero (suc k) hj hk e = absurd (D.0 (subst (λ (x : ℕ). Memᴰ x is) (sym e) (mem-at is k (le_of_suc-le-suc hk))))
different_apart (i ∷ is) D (suc j) zero hj hk e = absurd (D.0 (subst (λ (x : ℕ). Memᴰ x is) e (mem-at is j (le_of_suc-le-suc hj))))
different_apart (i ∷ is) D (suc j) (suc k) hj hk e = ap suc (different_apart is D.1 j k (le_of_suc-le-suc hj) (le_of_suc-le-suc hk) e)

different_snoc : (is : List ℕ) (x : ℕ) → Different is → (Memᴰ x is → ⊥) → Different (is ++ x ∷ [])
different_snoc [] x D new = (λ m. Memᴰ.not-nil m, tt)
different_snoc (i ∷ is) x D new = (
  λ m. elim (Memᴰ.append_cases is m) [ inl k ↦ D.0 k | inr k ↦ new (Memᴰ.head (sym (Memᴰ.eq_of_singleton k))) ],
  different_snoc is x D.1 (λ m. new (Memᴰ.tail m)),
)

-- ---- no mates at all

zeros : ℕ → List ℕ
zeros n = replicate n zero

at_zeros : (n i : ℕ) → at (zeros n) i ≡ zero
unfolding zeros
at_zeros zero i = refl
at_zeros (suc n) zero = refl
at_zeros (suc n) (suc i) = at_zeros n i

size_zeros : (n : ℕ) → size (zeros n) ≡ zero
unfolding zeros size
size_zeros zero = refl
size_zeros (suc n) = size_zeros n

module _ (d : ℕ) (view : List ℕ) where
  -- ---- from the listed rows to the view, and back

  -- the mates q of the rows at `is`, each at its row's place in the view
  record Placed (is q : List ℕ) : Type 0 where
    mates : List ℕ
    pairing : Pairing d view mates
    sizes : size mates ≡ size q
    listed : (i v : ℕ) → at mates i ≡ suc v → Memᴰ i is
    from : (v : ℕ) → Seated mates v → Seated q v

  place : (is q : List ℕ) → Different is → ((i : ℕ) → Memᴰ i is → i < length view) → Pairing d (rows_at view is) q → Placed is q
  unfolding zeros size
  place [] [] D inside Q = record {
    mates = zeros (length view);
    pairing = record {
      fits = length-replicate (length view) zero;
      holds = λ i v e. absurd (not_mate (at_zeros (length view) i) e);
      apart = λ i j v e f. absurd (not_mate (at_zeros (length view) i) e);
    };
    sizes = size_zeros (length view);
    listed = λ i v e. absurd (not_mate (at_zeros (length view) i) e);
    from = λ v s. absurd (not_mate (at_zeros (length view) s.0) s.1);
  }
  place [] (x ∷ q) D inside Q = absurd (suc-ne-zero (length q) Q.fits)
  place (i ∷ is) [] D inside Q = absurd (suc-ne-zero (length (rows_at view is)) (sym Q.fits))
  place (i ∷ is) (x ∷ q) D inside Q =
      go x Q (place is q D.1 (λ j m. inside j (Memᴰ.tail m)) (pairing_tail d (at view i) (rows_at view is) q x Q))
    where
      later : (y v : ℕ) → Seated q v → Seated (y ∷ q) v
      later y v s = (suc s.0, s.1)

      go : (x : ℕ) → Pairing d (rows_at view (i ∷ is)) (x ∷ q) → Placed is q → Placed (i ∷ is) (x ∷ q)
      go zero Q T = record {
        mates = T.mates;
        pairing = T.pairing;
        sizes = T.sizes;
        listed = λ j v e. Memᴰ.tail (T.listed j v e);
        from = λ v s. later zero v (T.from v s);
      }
      go (suc v) Q T = record {
        mates = set T.mates i (suc v);
        pairing = pairing_put d view T.mates i v T.pairing hi h.0 (λ s. h.1 (T.from v s));
        sizes = size_more T.mates i v hi free ∙ ap suc T.sizes;
        listed = λ j w e. elim (stored T.mates i (suc v) j hi) [
          | inl s ↦ Memᴰ.head s.0
          | inr s ↦ Memᴰ.tail (T.listed j w (sym s.1 ∙ e))
        ];
        from = λ w s. elim (stored T.mates i (suc v) s.0 hi) [
          | inl k ↦ (zero, sym k.1 ∙ s.1)
          | inr k ↦ later (suc v) w (T.from w (s.0, sym k.1 ∙ s.1))
        ];
      }
        where
          hi : i < length T.mates
          hi = omega (arith, T.pairing.fits, inside i (Memᴰ.head refl))

          h : In d (at view i) v × (Seated q v → ⊥)
          h = pairing_head d (at view i) (rows_at view is) q v Q

          free : at T.mates i ≡ zero
          free = elim (mate? (at T.mates i)) [ inl z ↦ z | inr t ↦ absurd (D.0 (T.listed i t.0 t.1)) ]

  -- the mates of the rows at `is`
  listed_pairing : (is p : List ℕ) → Different is → Pairing d view p → Pairing d (rows_at view is) (rows_at p is)
  listed_pairing is p D P = record {
    fits = length-map is (at p) ∙ sym (length-map is (at view));
    holds = λ k v e.
        let h = inside k v e in
        subst (λ (r : ℕ). In d r v) (sym (at_map (at view) is k h)) (P.holds (at is k) v (sym (at_map (at p) is k h) ∙ e));
    apart = λ j k v e f.
        let hj = inside j v e in
        let hk = inside k v f in
        different_apart is D j k hj hk (P.apart (at is j) (at is k) v (sym (at_map (at p) is j hj) ∙ e) (sym (at_map (at p) is k hk) ∙ f));
  }
    where
      inside : (k v : ℕ) → at (rows_at p is) k ≡ suc v → k < length is
      inside k v e = omega (arith, at_less (rows_at p is) k v e, length-map is (at p))

  listed-size : (is p : List ℕ) → Pairing d view p → ((i v : ℕ) → at p i ≡ suc v → Memᴰ i is) → size p ≤ size (rows_at p is)
  listed-size is p P all = size_by_values p (rows_at p is) P.apart (λ v s.
      let k = mem_place is s.0 (all s.0 v s.1) in
      (k.0, at_map (at p) is k.0 k.1 ∙ ap (at p) (sym k.2) ∙ s.1))

  -- ---- the rows at `is` have the rank of the marked rows, each with a mate

  marked_inside : (ms : List Bool) (i : ℕ) → length ms ≡ length view → marked ms i ≡ true → i < length view
  marked_inside ms i e t = elim (dec_lt i (length view)) [ yes h ↦ h | no n ↦ absurd (not_both t (get_or-eq_default ms false (omega arith))) ]

  -- the rows at some marked positions have no larger rank than the marked rows
  listed-rank : (ms : List Bool) (is q : List ℕ) → length ms ≡ length view → Different is → ((i : ℕ) → Memᴰ i is → marked ms i ≡ true)
      → Pairing d (rows_at view is) q → size q ≤ rank d (pick ms view)
  listed-rank ms is q fits D all Q =
      let T = place is q D (λ i m. marked_inside ms i fits (all i m)) Q in
      omega (
        arith,
        T.sizes,
        rank-mask d ms view,
        rank_bound d (mask ms view) T.mates (pairing_mask d view T.mates ms (λ i v e. all i (T.listed i v e)) T.pairing),
      )

  -- the next row, which is not marked
  module _ (ms : List Bool) (is : List ℕ) (S : Stands d view ms is) (x : ℕ) (h : x < length view) (n : marked ms x ≡ false) where
    apart⁺ : Different (is ++ x ∷ [])
    apart⁺ = different_snoc is x S.apart (λ m. not_both (S.marked_all x m) n)

    -- it has got a mate too
    module _ (q : List ℕ) (Q : Pairing d (rows_at view (is ++ x ∷ [])) q) (larger : size q ≡ suc (length is)) where
      marked⁺ : (i : ℕ) → Memᴰ i (is ++ x ∷ []) → marked (set ms x true) i ≡ true
      marked⁺ i m = elim (Memᴰ.append_cases is m) [
        | inl k ↦ mark_keeps ms x i (S.marked_all i k)
        | inr k ↦ ap (marked (set ms x true)) (Memᴰ.eq_of_singleton k) ∙ mark_same ms x (omega (arith, h, S.fits))
      ]

      ranks⁺ : rank d (pick (set ms x true) view) ≡ suc (length is)
      ranks⁺ = omega (
        arith,
        larger,
        S.ranks,
        rank_step d view ms x,
        listed-rank (set ms x true) (is ++ x ∷ []) q (length-set ms x true ∙ S.fits) apart⁺ marked⁺ Q,
      )

      pub raised_stands : Stands d view (set ms x true) (is ++ x ∷ [])
      raised_stands = record {
        fits = length-set ms x true ∙ S.fits;
        apart = apart⁺;
        marked_all = marked⁺;
        ranks = let e : length (is ++ x ∷ []) ≡ length is + 1 = length-append is (x ∷ []) in omega (arith, ranks⁺);
      }

      pub raised_kept : try d view ms x ≡ set ms x true
      unfolding try
      raised_kept =
          ap (λ (b : Bool). cond b (set ms x true) ms)
          (lt-ltb (rank d (pick ms view)) (rank d (pick (set ms x true) view)) (omega (arith, S.ranks, ranks⁺)))

    -- no pairing of the rows at `is` and row x is larger
    module _ (p : List ℕ) (P : Pairing d (rows_at view is) p) (full : size p ≡ length is)
        (most : (q : List ℕ) → Pairing d (rows_at view (is ++ x ∷ [])) q → size q ≤ length is) where
      T : Placed is p
      T = place is p S.apart (λ i m. marked_inside ms i S.fits (S.marked_all i m)) P

      hs : List Bool
      hs = mated T.mates

      long : length hs ≡ length view
      unfolding hs
      long = length_mated T.mates ∙ T.pairing.fits

      fewer : Fewer hs ms
      unfolding hs
      fewer i t = let k = mated_out T.mates i t in S.marked_all i (T.listed i k.0 k.1)

      not_raised : Raises d view hs x → ⊥
      unfolding hs
      not_raised r = omega (
        arith,
        r,
        met.2,
        low,
        size-listed,
        most (rows_at met.0 (is ++ x ∷ []))
            (listed_pairing (is ++ x ∷ []) met.0 apart⁺ (pairing_whole d view met.0 (set hs x true) met.1)),
      )
        where
          met : OfRank d (mask (set hs x true) view)
          met = rank_met d (mask (set hs x true) view)

          low : length is ≤ rank d (mask hs view)
          low = omega (
            arith,
            full,
            T.sizes,
            rank_bound d (mask hs view) T.mates (pairing_mask d view T.mates hs (λ i v e. mated_in T.mates i v e) T.pairing),
          )

          size-listed : size met.0 ≤ size (rows_at met.0 (is ++ x ∷ []))
          size-listed =
              listed-size (is ++ x ∷ []) met.0 (pairing_whole d view met.0 (set hs x true) met.1)
              (λ i v e. elim (mark_cases hs x i (pairing_marked d view met.0 (set hs x true) met.1 i v e)) [
                | inl s ↦ Memᴰ.append_right is (Memᴰ.head s)
                | inr m ↦ let k = mated_out T.mates i m in Memᴰ.append_left (x ∷ []) (T.listed i k.0 k.1)
              ])

      same_rank : rank d (pick (set ms x true) view) ≤ rank d (pick ms view)
      same_rank = elim (dec_lt (rank d (mask ms view)) (rank d (mask (set ms x true) view))) [
        | yes r ↦ absurd (not_raised (raises_fewer d view hs ms x long fewer r))
        | no le ↦ omega (arith, le, rank-mask d ms view, rank-mask d (set ms x true) view)
      ]

      pub passed_by : try d view ms x ≡ ms
      unfolding try
      passed_by = ap (λ (b : Bool). cond b (set ms x true) ms) (le-ltb (rank d (pick ms view)) (rank d (pick (set ms x true) view)) same_rank)

      -- a row that is marked all the same changes nothing
      pub passed_stands : Stands d view (set ms x true) is
      passed_stands = record {
        fits = length-set ms x true ∙ S.fits;
        apart = S.apart;
        marked_all = λ i m. mark_keeps ms x i (S.marked_all i m);
        ranks = omega (
          arith,
          same_rank,
          S.ranks,
          full,
          listed-rank (set ms x true) is p (length-set ms x true ∙ S.fits) S.apart (λ i m. mark_keeps ms x i (S.marked_all i m)) P,
        );
      }
