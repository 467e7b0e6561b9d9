-- The values of the rows that were not asked, collected a row at a time. Assumes nothing.
use Prim.Native.Nat.{ℕ, zero, suc, ◌+◌, ◌-◌, ◌≤◌, ◌<◌}
use mathlib.Core.Path.{◌≡◌, sym, ap, ◌∙◌}
use mathlib.Core.Logic.{◌≢◌, inl, inr}
use mathlib.Core.Bool.{true, false}
use mathlib.Core.List.{List}
use native.Mathlib.Nat.{not-suc-le-zero}
use native.Mathlib.Decide.{ℕ_discrete}
use native.Mathlib.Omega.{arith}
use lib.Bits.{bit_or}
use lib.ListN.{length}
use Rattle.sets.specs.Sets.{has, single}
use Rattle.sets.proofs.Bools.{not_both}
use Rattle.sets.proofs.Values.{has-empty, with_old, with_new, with_cases}
use Rattle.theory.specs.Pairings.{at}
use Rattle.theory.proofs.Places.{at_less}
use Rattle.pairing.specs.Code.Seats.{Unreached}

-- `dead` has the mates of the rows before `next` that were not asked
pub record Reaching (asked : ℕ) (p : List ℕ) (dead next : ℕ) : Type 0 where
  pub inside : next ≤ length p
  pub all : (i u : ℕ) → i < next → at p i ≡ suc u → has asked i ≡ false → has dead u ≡ true
  pub only : (u : ℕ) → has dead u ≡ true → (i : ℕ) × (at p i ≡ suc u) × (has asked i ≡ false)

module _ {asked : ℕ} {p : List ℕ} where
  pub reach_start : Reaching asked p zero zero
  reach_start = record { inside = omega arith; all = λ i u h. absurd (not-suc-le-zero h); only = λ u t. absurd (not_both t (has-empty u)) }

  module _ {dead next : ℕ} (R : Reaching asked p dead next) where
    pub reach_end : length p ≤ next → Unreached asked p dead
    reach_end h = record { all = λ i u e n. R.all i u (omega (arith, at_less p i u e)) e n; only = R.only }

    -- row `next` has no mate, or was asked
    pub reach_pass : next < length p → ((u : ℕ) → at p next ≡ suc u → has asked next ≡ false → ⊥) → Reaching asked p dead (next + 1)
    reach_pass h none = record {
      inside = omega arith;
      all = λ i u l e n. elim (ℕ_discrete i next) [
        | yes s ↦ absurd (none u (ap (at p) (sym s) ∙ e) (ap (has asked) (sym s) ∙ n))
        | no ne ↦ R.all i u (omega arith) e n
      ];
      only = R.only;
    }

    -- row `next` has the mate w and was not asked
    pub reach_more : next < length p → at p next ≢ zero → has asked next ≡ false
        → Reaching asked p (bit_or dead (single (at p next - 1))) (next + 1)
    reach_more h some n = record {
      inside = omega arith;
      all = λ i u l e m. elim (ℕ_discrete i next) [
        | yes s ↦
            let is : at p next ≡ suc u = ap (at p) (sym s) ∙ e in
            let same : u ≡ w = omega arith in
            ap (has (bit_or dead (single w))) same ∙ with_new dead w
        | no ne ↦ with_old dead w u (R.all i u (omega arith) e m)
      ];
      only = λ u t. elim (with_cases dead w u t) [
        | inl s ↦ (next, mate ∙ ap suc (sym s), n)
        | inr d ↦ R.only u d
      ];
    }
      where
        w : ℕ
        w = at p next - 1

        mate : at p next ≡ suc w
        mate = omega (arith, some)
