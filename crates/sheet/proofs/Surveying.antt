-- What a pass over the places has learnt so far. Assumes nothing.
use Prim.Native.Nat.{◌+◌, ◌-◌, ℕ, zero, suc, ◌≤◌, ◌<◌}
use mathlib.Core.Path.{◌≡◌, refl, sym, ap, ◌∙◌}
use mathlib.Core.Logic.{◌≢◌}
use mathlib.Core.Bool.{Bool, true, false, ◌&&◌, ◌||◌}
use mathlib.Core.List.{List}
use native.Mathlib.Decide.{ℕ_discrete}
use native.Mathlib.Omega.{arith}
use Rattle.std.specs.Bool.{then_some}
use Rattle.std.specs.List.{list_all, range_with_len}
use lib.Dec.{ltb}
use lib.ListN.{length, set, replicate, length-set, length-replicate, get_or-replicate}
use borrow.Author.Tests.{eq-eqb, ne_eqb}
use Rattle.sets.proofs.Bools.{and_both}
use Rattle.theory.specs.Pairings.{at}
use Rattle.sets.specs.Limits.{most_desks, most_places}
use Rattle.theory.proofs.Places.{at_same, at_other}
use Rattle.sheet.specs.declared.Sheet.{Sheet}
use Rattle.sheet.specs.Upto.{count_to, all_to}
use Rattle.sheet.specs.Sheets.{owns, owned, empty, placed}
use Rattle.sheet.specs.Code.Surveys.{Counted, Surveyed}
use Rattle.sheet.proofs.PlaceRows.{place_rows}
use Rattle.sheet.proofs.UptoLaws.{all_range, all_fails, count_yes, count_no, count-le}

-- the places before the next are owned and have proper rows, and counts has how many each desk owns of them
pub record Tallied (s : Sheet) (counts : List ℕ) (next : ℕ) : Type 0 where
  pub before : all_to (owned s) next ≡ true
  pub long : length counts ≡ most_desks
  pub counted : (k : ℕ) → k < most_desks → at counts k ≡ count_to (owns s.owners k) next

-- what is learnt where all of a survey is known
pub surveyed : (right : Sheet → Bool) (s : Sheet) (counts : List ℕ) (b : Bool) → right s ≡ b → Counted s counts
    → Surveyed right s (then_some b counts)
surveyed right s counts true e c = (e, c)
surveyed right s counts false e c = e

module _ (s : Sheet) where
  pub tally_start : Tallied s (replicate most_desks zero) zero
  unfolding count_to all_to
  tally_start = record { before = refl; long = length-replicate most_desks zero; counted = λ k h. get_or-replicate most_desks k zero zero h }

  -- one used place is not right
  pub tally_wrong : (i : ℕ) → i < s.used → owned s i ≡ false → placed s ≡ false
  unfolding placed
  tally_wrong i h e = ap (λ (b : Bool). b && all_to (λ j. ltb j s.used || empty s j) most_places) (all_fails (owned s) s.used i h e)

module _ {s : Sheet} {counts : List ℕ} {next : ℕ} (t : Tallied s counts next) where
  -- so that a count can be raised
  pub tally_small : (k : ℕ) → k < most_desks → at counts k ≤ next
  tally_small k h = rw (t.counted k h) (count-le (owns s.owners k) next)

  pub tally_more : at s.owners next < most_desks → owned s next ≡ true
      → Tallied s (set counts (at s.owners next) (suc (at counts (at s.owners next)))) (suc next)
  unfolding all_to
  tally_more h e =
      record {
        before = and_both (all_to (owned s) next) (owned s next) t.before e;
        long = length-set counts o (suc (at counts o)) ∙ t.long;
        counted = λ k l. elim (ℕ_discrete k o) [ yes q ↦ same k l q | no ne ↦ other k l ne ];
      }
    where
      o : ℕ
      o = at s.owners next

      same : (k : ℕ) → k < most_desks → k ≡ o → at (set counts o (suc (at counts o))) k ≡ count_to (owns s.owners k) (suc next)
      same k l q =
          ap (at (set counts o (suc (at counts o)))) q ∙ at_same counts o (suc (at counts o)) (omega (arith, t.long))
          ∙ ap (λ (j : ℕ). suc (at counts j)) (sym q) ∙ ap suc (t.counted k l) ∙ sym (count_yes (owns s.owners k) next (eq-eqb o k (sym q)))

      other : (k : ℕ) → k < most_desks → k ≢ o → at (set counts o (suc (at counts o))) k ≡ count_to (owns s.owners k) (suc next)
      other k l ne =
          at_other counts o (suc (at counts o)) k ne ∙ t.counted k l ∙ sym (count_no (owns s.owners k) next (ne_eqb o k (λ q. ne (sym q))))

  -- all of them are
  pub tally_all : next ≡ s.used → s.used ≤ most_places → placed s ≡ list_all (empty s) (range_with_len s.used (most_places - s.used))
  unfolding placed
  tally_all e h =
      let rest : s.used + (most_places - s.used) ≡ most_places = omega arith in
      ap (λ (b : Bool). b && all_to (λ j. ltb j s.used || empty s j) most_places) (ap (all_to (owned s)) (sym e) ∙ t.before)
      ∙ sym (all_range (empty s) s.used (most_places - s.used) ∙ ap (all_to (λ j. ltb j s.used || empty s j)) rest)

  pub tally_counted : next ≡ s.used → Counted s counts
  tally_counted e = record { long = t.long; each = λ k l. t.counted k l ∙ ap (count_to (owns s.owners k)) e }

-- what `Sheet::tally` cites
pub ruleset tallying = (place_rows, tally_small, tally_all, tally_counted, surveyed)
