-- Where the steps start: no row has a seat and all values below d are free. Assumes nothing.
use Prim.Native.Nat.{ℕ, zero, suc, ◌-◌, ◌^◌}
use mathlib.Core.Path.{◌≡◌, refl, sym, ap, ap₂, ◌∙◌}
use mathlib.Core.Bool.{Bool, true, false}
use mathlib.Core.List.Memᴰ
use mathlib.Core.List.{List, [], ◌∷◌}
use native.Mathlib.Nat.{suc-ne-zero}
use native.Mathlib.Decide.{dec_lt}
use native.Mathlib.Omega.{arith}
use lib.Bits.{bit_or}
use lib.ListN.{length, replicate, length-replicate}
use Rattle.sets.specs.declared.Row.{Row}
use Rattle.sets.specs.Rows.{width, bits}
use Rattle.pairing.specs.Code.Seats.{seats}
use Rattle.sets.specs.Sets.{has, within}
use Rattle.sets.proofs.Bools.{not_both}
use Rattle.sets.proofs.Values.{has-empty}
use Rattle.sets.proofs.ValuesBelow.{all-has, has_all, within_has, within_some}
use Rattle.theory.specs.Family.{Rows}
use Rattle.theory.specs.Pairings.{size, rank, at}
use Rattle.theory.specs.Kept.{pick}
use Rattle.theory.proofs.Places.{past, mem_place}
use Rattle.theory.proofs.PairingSteps.{pairing_nil}
use Rattle.theory.proofs.Sizes.{size_by_rows}
use Rattle.theory.proofs.Enumerations.{rank_met}
use Rattle.pairing.specs.declared.seats.Seating.{Seating}
use Rattle.pairing.specs.Code.Seats.{Below, Bench}
use Rattle.minimal.specs.Code.Marking.{NoneEmpty}
use Rattle.distinct.specs.Code.Steps.{InColumn, before, Pairs, offered}
use Rattle.distinct.proofs.MarksBefore.{length_before}

at_zeros : (n i : ℕ) → at (replicate n zero) i ≡ zero
at_zeros zero i = refl
at_zeros (suc n) zero = refl
at_zeros (suc n) (suc i) = at_zeros n i

pick_none : (ms : List Bool) (rows : List ℕ) → pick (before zero ms) rows ≡ []
unfolding before pick
pick_none [] rows = refl
pick_none (m ∷ ms) [] = refl
pick_none (m ∷ ms) (r ∷ rows) = pick_none ms rows

module _ (d : ℕ) (view : List ℕ) (C : InColumn d view) where
  pub column_rows : Rows d view
  column_rows r m = let k = mem_place view r m in ap (within d) k.2 ∙ C.rows_within k.0 k.1

  pub none_empty : NoneEmpty view
  none_empty i h z = let t = within_some d (at view i) (C.rows_within i h) in not_both t.1 (ap (λ (r : ℕ). has r t.0) z ∙ has-empty t.0)

  below : (i : ℕ) → Below d (at view i)
  below i v t = elim (dec_lt i (length view)) [
    | yes h ↦ within_has d (at view i) v (C.rows_within i h) t
    | no n ↦ absurd (not_both t (ap (λ (r : ℕ). has r v) (past view i (omega arith)) ∙ has-empty v))
  ]

  module _ (all none : Row) (is_all : bits all ≡ 2 ^ d - 1) (is_none : bits none ≡ zero) where
    -- the seats before any row is asked
    abbrev start : Seating
    start = record { d = d; used = zero; entered = zero; free = all; dead = none; fresh = all; heavy = none }

    none_has : (v : ℕ) → has (bits none) v ≡ false
    none_has v = ap (λ (r : ℕ). has r v) is_none ∙ has-empty v

    bench : (columns : List ℕ) → length columns ≡ width → ((v : ℕ) → at columns v ≡ zero) → Bench start [] columns []
    bench columns wide empty = record {
      used = refl;
      column = omega (arith, C.column);
      pairing = pairing_nil width;
      full = size-nil;
      small = λ i v t. absurd (not_both t (has-empty v));
      new = λ v t. (has_all d v (rw is_all at t), λ s. suc-ne-zero v (sym s.1));
      free = λ v h s. rw is_all (all-has d v h);
      shut = λ u t. absurd (not_both t (none_has u));
      fresh = λ i v t. absurd (not_both t (has-empty v));
      index = record {
        wide = wide;
        complete = λ i v t. absurd (not_both t (has-empty v));
        inside = λ i v t. absurd (not_both t (ap₂ (λ (x y : ℕ). has (bit_or x y) i) (empty v) is_none ∙ has-empty i));
      };
    }
      where
        size-nil : size [] ≡ zero
        size-nil = omega (arith, size_by_rows [])

    pub pairs_start : (ms : List Bool) (rows mates : List ℕ) → length ms ≡ length view → length rows ≡ seats → length mates ≡ seats
        → Pairs view (offered true zero ms) start rows (replicate width zero) mates
    unfolding offered
    pairs_start ms rows mates long rows_wide mates_wide = record {
      sits = record {
        rows_wide = rows_wide;
        mates_wide = mates_wide;
        few = omega arith;
        bench = bench (replicate width zero) (length-replicate width zero) (at_zeros width);
      };
      places = [];
      stands = record {
        fits = length_before zero ms ∙ long;
        apart = tt;
        marked_all = λ i m. absurd (Memᴰ.not-nil m);
        ranks = ap (rank width) (pick_none ms view) ∙ no_rank;
      };
      listed = refl;
      small = below;
    }
      where
        no_rank : rank width [] ≡ zero
        no_rank = let h = rank_met width [] in omega (arith, h.2, size_by_rows h.0, h.1.fits)
