-- Every sheet of a run is sound, whole, and keeps the d, T and number of desks that it began with;
-- where begin is refused, its sheet isn't sound. Assumes nothing.
use Prim.Native.Nat.{ℕ, zero, suc, ◌<◌}
use mathlib.Core.Path.{◌≡◌, refl, sym, ap, ◌∙◌}
use mathlib.Core.Bool.{Bool, true, false, cond}
use mathlib.Core.List.{List, [], ◌∷◌}
use native.Mathlib.Omega.{arith}
use lib.Dec.{leb}
use lib.ListN.{length}
use borrow.Author.Tests.{leb-false, eq-eqb}
use Rattle.std.specs.Prelude.{Err}
use Rattle.sets.specs.Rows.{bits}
use Rattle.sets.specs.Limits.{most_places, most_rows}
use Rattle.sheet.specs.declared.Sheet.{Sheet}
use Rattle.sheet.specs.Sheets.{own, hides, Whole, sound}
use Rattle.sheet.specs.Changes.{fresh_sheet}
use Rattle.sheet.proofs.OwnAfter.{length-own, whole_adding, whole_without}
use Rattle.sheet.proofs.HidesAfter.{whole_hiding, whole_showing}
use Rattle.sheet.proofs.SoundParts.{sound_parts}
use Rattle.sheet.proofs.SoundAfter.{whole_fresh, sound_fresh, zeros_unsound, sound-hiding, sound-adding, sound-without, sound-resetting}
use Rattle.store.specs.declared.Target.TheVariants.{Table, Own}
use Rattle.store.specs.declared.Call.{Call}
use Rattle.store.specs.declared.Call.TheVariants.{Do, Ask}
use Rattle.store.specs.declared.Change.TheVariants.{Delete, Insert, Reset}
use Rattle.refusals.specs.declared.Refusal.TheVariants.{NoDesk}
use Rattle.refusals.specs.Cases.{◌gives◌, decided}
use Rattle.store.specs.Answers.{accepted}
use Rattle.store.specs.Desks.{serve}
use Rattle.refusals.specs.TableCases.{table_cases}
use Rattle.refusals.proofs.Outcomes.{stands_first}
use Rattle.refusals.proofs.TablesJudged.{parts_right}
use Rattle.store.specs.Calls.{sheet_cases, begun_answer, begun_sheet, crowded, answered, changed, sheet_after}
use Rattle.store.specs.Promise.{Turn, sheet_on}
use Rattle.store.proofs.Judging.{Good, good_parts, parts_good, passed, Allowed, allowed, has_room}

-- a sheet of a class on this table
pub record Reached (d : ℕ) (table : List ℕ) (desks : ℕ) (s : Sheet) : Type 0 where
  pub whole : Whole s
  pub stays-sound : sound s ≡ true
  pub same_d : s.d ≡ d
  pub same_rows : s.rows ≡ length table
  pub same_desks : s.desks ≡ desks

-- ---- begin

pub refused_begin_unsound : (d : ℕ) (table : List ℕ) (desks : ℕ) → accepted (begun_answer d table desks) ≡ false
    → sound (begun_sheet d table desks) ≡ false
unfolding begun_sheet
refused_begin_unsound d table desks e = rw e zeros_unsound

module _ {d : ℕ} {table : List ℕ} {desks : ℕ} (good : Good d table desks) where
  begun : Reached d table desks (begun_sheet d table desks)
  unfolding begun_sheet fresh_sheet
  begun =
      rw (parts_good good)
      record {
        whole = whole_fresh d (length table) desks;
        stays-sound =
            sound_fresh d (length table) desks good.right.some_value good.right.values good.right.small
            good.some_desk good.few_desks;
        same_d = refl;
        same_rows = refl;
        same_desks = refl;
      }

  -- ---- a call

  -- of refusals 1 to 5, 5 alone is left
  pub answered_here : {s : Sheet} → Reached d table desks s → (k : ℕ) (c : Call) (places : ℕ) → answered d table s k c places
      ≡ decided Err ((leb desks k gives NoDesk) ∷ []) (serve d table (crowded s) places (hides s.marks k) (own s k) c)
  unfolding answered sheet_cases decided
  answered_here {s} r k c places =
      stands_first Err (table_cases most_rows d table) (sheet_cases d table s k) (parts_right most_rows d table good.right) _
      ∙ rw (r.stays-sound, eq-eqb s.d d r.same_d, eq-eqb s.rows (length table) r.same_rows, r.same_desks) refl

  -- what an accepted call has
  pub call_has : {s : Sheet} → Reached d table desks s → (k : ℕ) (c : Call) (places : ℕ) → accepted (answered d table s k c places) ≡ true
      → (k < desks) × Allowed d (length table) (crowded s) (own s k) c
  unfolding decided
  call_has {s} r k c places t =
      let a = serve d table (crowded s) places (hides s.marks k) (own s k) c in
      let p = passed (leb desks k) NoDesk [] a (sym (ap accepted (answered_here r k c places)) ∙ t) in
      (leb-false desks k p.0, allowed d table (crowded s) places (hides s.marks k) (own s k) c p.1)

  after : {s : Sheet} → Reached d table desks s → (k : ℕ) (c : Call) → k < desks → Allowed d (length table) (crowded s) (own s k) c
      → Reached d table desks (changed s k c)
  unfolding changed
  after {s} r k (Do (Delete (Table n))) h a =
      record {
        whole = whole_hiding k n r.whole;
        stays-sound = sound-hiding k n r.whole r.stays-sound (omega (arith, r.same_desks)) (omega (arith, r.same_rows));
        same_d = r.same_d;
        same_rows = r.same_rows;
        same_desks = r.same_desks;
      }
  after {s} r k (Do (Delete (Own n))) h a =
      record {
        whole = whole_without k n (suc n) r.whole (sound_parts s r.stays-sound).places;
        stays-sound = sound-without s k n (suc n) r.stays-sound (omega (arith, r.same_desks)) (omega arith);
        same_d = r.same_d;
        same_rows = r.same_rows;
        same_desks = r.same_desks;
      }
  after {s} r k (Do (Insert row)) h a =
      record {
        whole = whole_adding k (bits row) r.whole;
        stays-sound =
            sound-adding k (bits row) r.whole r.stays-sound (omega (arith, r.same_desks)) (rw r.same_d a.0)
            (omega (arith, a.1, length-own s k))
            (has_room s r.stays-sound k a.2);
        same_d = r.same_d;
        same_rows = r.same_rows;
        same_desks = r.same_desks;
      }
  after {s} r k (Do Reset) h a =
      record {
        whole = whole_showing k (whole_without k zero most_places r.whole (sound_parts s r.stays-sound).places);
        stays-sound = sound-resetting s k r.stays-sound (omega (arith, r.same_desks));
        same_d = r.same_d;
        same_rows = r.same_rows;
        same_desks = r.same_desks;
      }
  after r k (Ask q) h a = r

  -- ---- a run

  pub reached : (past : List Turn) → Reached d table desks (sheet_on d table desks past)
  unfolding sheet_on sheet_after
  reached [] = begun
  reached (t ∷ past) = go (accepted (answered d table (sheet_on d table desks past) t.desk t.call (length t.list))) refl (reached past)
    where
      go : (b : Bool) → accepted (answered d table (sheet_on d table desks past) t.desk t.call (length t.list)) ≡ b
          → Reached d table desks (sheet_on d table desks past)
          → Reached d table desks (cond b (changed (sheet_on d table desks past) t.desk t.call) (sheet_on d table desks past))
      go true e r =
          let has = call_has r t.desk t.call (length t.list) e in
          after r t.desk t.call has.0 has.1
      go false e r = r

pub reached_sound : (d : ℕ) (table : List ℕ) (desks : ℕ) → accepted (begun_answer d table desks) ≡ true → (past : List Turn)
    → sound (sheet_on d table desks past) ≡ true
reached_sound d table desks t past = (reached (good_parts d table desks t) past).stays-sound
