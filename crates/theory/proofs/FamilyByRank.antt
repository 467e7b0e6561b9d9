-- Theorem 3.6 another way than the paper's: marked rows that have a subset of each row of the view, and the view's rank, have the view's family.
-- What the paper takes from a Hall violator comes from the swap of values. Assumes nothing.
use Prim.Native.Nat.{ℕ, suc}
use mathlib.Core.Path.{◌≡◌, refl}
use mathlib.Core.Logic.{inl, inr}
use mathlib.Core.Bool.{Bool, true}
use mathlib.Core.List.Memᴰ
use mathlib.Core.List.{List, [], ◌∷◌, Memᴰ}
use native.Mathlib.Omega.{arith}
use Rattle.sets.specs.Sets.{subset}
use Rattle.sets.proofs.Subsets.{subset-has}
use Rattle.theory.specs.Family.{family, SameFamily}
use Rattle.theory.specs.Pairings.{rank, at, Pairing, Largest, Admits}
use Rattle.theory.specs.Kept.{marked, pick}
use Rattle.theory.specs.Code.Search.{mask}
use Rattle.theory.proofs.Places.{mate?, not_mate, mem_some}
use Rattle.theory.proofs.Enumerations.{OfRank, rank_bound, rank_met}
use Rattle.theory.proofs.SwapValues.{ValuesSwapped, swap_values}
use Rattle.theory.proofs.FamilyIff.{family-admits, admits_family}
use Rattle.theory.proofs.Marks.{Alike, pairing_marked, pairing_whole, pairing_mask, widen, shrink, rank-mask, pick-view}

-- a list with a set in its family has a row
pub family-row : (d : ℕ) (rows : List ℕ) (s : ℕ) → Memᴰ s (family d rows) → (r : ℕ) × Memᴰ r rows
unfolding family
family-row d [] s m = absurd (Memᴰ.not-nil m)
family-row d (r ∷ rows) s m = (r, Memᴰ.head refl)

module _ (d : ℕ) (ms : List Bool) (view : List ℕ)
    (cover : (r : ℕ) → Memᴰ r view → (m : ℕ) × Memᴰ m (pick ms view) × (subset m r ≡ true))
    (ranks : rank d (pick ms view) ≡ rank d view) where
  -- a largest pairing of the marked rows is one of the view; swapped, it has the values of the set
  marked_admits : (s : ℕ) → Admits d view s → Admits d (pick ms view) s
  marked_admits s A =
      record {
        meets = λ r k. A.meets r (pick-view ms view r k);
        mates = alone.0;
        pairing = alone.1;
        seated = λ v e. let o = A.seated v e in alone.2.there v (over.1.covers o.0 v o.1);
      }
    where
      met : OfRank d (mask ms view)
      met = rank_met d (mask ms view)

      n : List ℕ
      n = met.0

      largest : Largest d view n
      largest p P = omega (arith, rank_bound d view p P, ranks, rank-mask d ms view, met.2)

      over : (n' : List ℕ) × ValuesSwapped d view A.mates A.pairing n n'
      over = swap_values d view A.mates A.pairing n (pairing_whole d view n ms met.1) largest

      on_marks : (i v : ℕ) → at over.0 i ≡ suc v → marked ms i ≡ true
      on_marks i v e = elim (mate? (at n i)) [
        | inl z ↦ absurd (not_mate (over.1.zeros i z) e)
        | inr t ↦ pairing_marked d view n ms met.1 i t.0 t.1
      ]

      alone : (q : List ℕ) × Pairing d (pick ms view) q × Alike over.0 q
      alone = shrink d ms view over.0 (pairing_mask d view over.0 ms on_marks over.1.pairing)

  view_admits : (s : ℕ) → Admits d (pick ms view) s → Admits d view s
  view_admits s A =
      record {
        meets = λ r k.
            let c = cover r k in
            let t = A.meets c.0 c.1 in
            (t.0, t.1, (t.2.0, subset-has c.0 r c.2 t.0 t.2.1));
        mates = wide.0;
        pairing = pairing_whole d view wide.0 ms wide.1;
        seated = λ v e. wide.2.there v (A.seated v e);
      }
    where
      wide : (p : List ℕ) × Pairing d (mask ms view) p × Alike A.mates p
      wide = widen d ms view A.mates A.pairing

  pub family_by_rank : SameFamily d view (pick ms view)
  family_by_rank s = (
    λ m.
        let r = family-row d view s m in
        let c = cover r.0 r.1 in
        admits_family d (pick ms view) s (mem_some c.1) (marked_admits s (family-admits d view s m)),
    λ m.
        let r = family-row d (pick ms view) s m in
        admits_family d view s (mem_some (pick-view ms view r.0 r.1)) (view_admits s (family-admits d (pick ms view) s m)),
  )
