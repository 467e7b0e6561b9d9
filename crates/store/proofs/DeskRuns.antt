-- What the class sheet has of a desk is what the desk's own history says. Assumes nothing.
use Prim.Native.Nat.{ℕ, zero, suc, ◌-◌, ◌%◌, ◌≤◌, ◌<◌}
use mathlib.Core.Path.{◌≡◌, refl, sym, ap, ◌∙◌}
use mathlib.Core.Logic.{◌≢◌, inl, inr}
use mathlib.Core.Bool.{Bool, true, false, cond, ◌&&◌}
use mathlib.Core.List.{List, [], ◌∷◌, ◌++◌}
use native.Mathlib.Decide.{ℕ_discrete}
use native.Mathlib.Omega.{arith}
use lib.Dec.{eqb}
use lib.ListN.{length, take, drop}
use borrow.Author.Tests.{eqb-true, eq-eqb, ne_eqb}
use Rattle.sets.proofs.RowValues.{bits_less}
use Rattle.sets.specs.Rows.{bits}
use Rattle.sets.specs.declared.Row.{Row}
use Rattle.sets.specs.Limits.{most_desks, most_places, most_rows, promised, word_bits}
use Rattle.sets.specs.Sets.{has}
use Rattle.sets.proofs.Values.{has-empty}
use Rattle.sheet.specs.declared.Sheet.{Sheet}
use Rattle.sheet.specs.Upto.{sum_to, those}
use Rattle.sheet.specs.Sheets.{own, held, owed, hides, word, all_marks}
use Rattle.sheet.specs.Changes.{fresh_sheet}
use Rattle.sheet.proofs.UptoLaws.{sum_ext}
use Rattle.sheet.proofs.ClosingUp.{at_zeros}
use Rattle.sheet.proofs.OwnAfter.{length-own, own-adding_same, own-adding_other, own-without_same, own-without_other, own-without-all}
use Rattle.sheet.proofs.HidesAfter.{hides_same, hides_other, wiped_same, wiped_other}
use Rattle.sheet.proofs.SoundParts.{sound_parts, used_is_held}
use Rattle.sheet.proofs.SoundAfter.{room}
use Rattle.store.specs.declared.Target.TheVariants.{Table, Own}
use Rattle.store.specs.declared.Call.{Call}
use Rattle.store.specs.declared.Call.TheVariants.{Do, Ask}
use Rattle.store.specs.declared.Change.TheVariants.{Delete, Insert, Reset}
use Rattle.store.specs.Answers.{accepted}
use Rattle.store.specs.Calls.{begun_sheet, crowded, answered, changed, sheet_after}
use Rattle.store.specs.Promise.{Turn, hidden_in, own_in, member, history, held_by, used_by, owed_by, sheet_on, class_store}
use Rattle.store.proofs.Judging.{Good, parts_good, Allowed, has_room}
use Rattle.store.proofs.SheetRuns.{Reached, reached, call_has}

-- the sheet has of desk k what history h says
pub record Agrees (s : Sheet) (k : ℕ) (h : List Call) : Type 0 where
  pub rows : own s k ≡ own_in h
  pub marks : (n : ℕ) → n < most_rows → hides s.marks k n ≡ member (hidden_in h) n

-- what a call adds to a history
accepted_call : (own : Bool) (h g : List Call) → cond (own && true) h g ≡ cond own h g
accepted_call true h g = refl
accepted_call false h g = refl

refused_call : (own : Bool) (h g : List Call) → cond (own && false) h g ≡ g
refused_call true h g = refl
refused_call false h g = refl

module _ {d : ℕ} {table : List ℕ} {desks : ℕ} (good : Good d table desks) where
  -- ---- begin

  fresh : (k : ℕ) → Agrees (begun_sheet d table desks) k []
  unfolding begun_sheet fresh_sheet those hides own_in hidden_in member
  fresh k =
      rw (parts_good good)
      record {
        rows = refl;
        marks = λ n h. ap (λ (x : ℕ). has x (n % word_bits)) (at_zeros all_marks (word k n)) ∙ has-empty (n % word_bits);
      }

  -- ---- an accepted call

  module _ {s : Sheet} (r : Reached d table desks s) (k : ℕ) (hk : k < desks) where
    place : (row : Row) → Allowed d (length table) (crowded s) (own s k) (Do (Insert row)) → s.used < most_places
    place row a = room s k r.stays-sound (omega (arith, r.same_desks)) (has_room s r.stays-sound k a.2)

    narrow : {n : ℕ} → n < length table → n < most_rows
    narrow l = omega (arith, good.right.small)

    low : k < most_desks
    low = omega (arith, good.few_desks)

    own_same : (c : Call) (h : List Call) → Allowed d (length table) (crowded s) (own s k) c → own s k ≡ own_in h
        → own (changed s k c) k ≡ own_in (c ∷ h)
    unfolding changed own_in
    own_same (Do (Delete (Table n))) h a e = e
    own_same (Do (Delete (Own n))) h a e = own-without_same s k n (suc n) (omega arith) ∙ ap (λ (l : List ℕ). take n l ++ drop (suc n) l) e
    own_same (Do (Insert row)) h a e =
        own-adding_same k (bits row) r.whole (place row a) (bits_less row) ∙ ap (λ (l : List ℕ). l ++ (bits row ∷ [])) e
    own_same (Do Reset) h a e = own-without-all s k (sound_parts s r.stays-sound).places
    own_same (Ask q) h a e = e

    hides_here : (c : Call) (h : List Call) → Allowed d (length table) (crowded s) (own s k) c → (n : ℕ) → n < most_rows
        → hides s.marks k n ≡ member (hidden_in h) n → hides (changed s k c).marks k n ≡ member (hidden_in (c ∷ h)) n
    unfolding changed hidden_in member
    hides_here (Do (Delete (Table m))) h a n l e = elim (ℕ_discrete m n) [
      | yes q ↦ rw (← q, eq-eqb m m refl) (hides_same s.marks k m r.whole.marks_long low (narrow a))
      | no ne ↦ rw (ne_eqb m n ne) (hides_other s.marks k m r.whole.marks_long low (narrow a) k n l (inr (λ q. ne (sym q))) ∙ e)
    ]
    hides_here (Do (Delete (Own m))) h a n l e = e
    hides_here (Do (Insert row)) h a n l e = e
    hides_here (Do Reset) h a n l e = wiped_same s.marks k n l
    hides_here (Ask q) h a n l e = e

    module _ (j : ℕ) (ne : j ≢ k) where
      own_other : (c : Call) → Allowed d (length table) (crowded s) (own s k) c → own (changed s k c) j ≡ own s j
      unfolding changed
      own_other (Do (Delete (Table n))) a = refl
      own_other (Do (Delete (Own n))) a = own-without_other s k n (suc n) j ne
      own_other (Do (Insert row)) a = own-adding_other k (bits row) r.whole (place row a) (bits_less row) j ne
      own_other (Do Reset) a = own-without_other s k zero most_places j ne
      own_other (Ask q) a = refl

      hides_there : (c : Call) → Allowed d (length table) (crowded s) (own s k) c → (n : ℕ) → n < most_rows
          → hides (changed s k c).marks j n ≡ hides s.marks j n
      unfolding changed
      hides_there (Do (Delete (Table m))) a n l = hides_other s.marks k m r.whole.marks_long low (narrow a) j n l (inl ne)
      hides_there (Do (Delete (Own m))) a n l = refl
      hides_there (Do (Insert row)) a n l = refl
      hides_there (Do Reset) a n l = wiped_other s.marks k n l j ne
      hides_there (Ask q) a n l = refl

    -- whose call it is, or another's
    agrees_after : (c : Call) → Allowed d (length table) (crowded s) (own s k) c → (j : ℕ) (h : List Call) → Agrees s j h
        → Agrees (changed s k c) j (cond (eqb k j) (c ∷ h) h)
    agrees_after c a j h g = elim (ℕ_discrete j k) [
      | yes e ↦
          (let rows : own s k ≡ own_in h = rw e at g.rows in
          rw (e, eq-eqb k k refl) record { rows = own_same c h a rows; marks = λ n l. hides_here c h a n l (rw e at (g.marks n l)) })
      | no ne ↦
          rw (ne_eqb k j (λ q. ne (sym q)))
          record { rows = own_other j ne c a ∙ g.rows; marks = λ n l. hides_there j ne c a n l ∙ g.marks n l }
    ]

  -- ---- a run

  abbrev sheet : List Turn → Sheet
  sheet past = sheet_on d table desks past

  abbrev calls : ℕ → List Turn → List Call
  calls k past = history (class_store d table desks) k past

  pub agrees : (past : List Turn) (k : ℕ) → k < desks → Agrees (sheet past) k (calls k past)
  unfolding sheet_on sheet_after history class_store
  agrees [] k h = fresh k
  agrees (t ∷ past) k h = go (accepted (answered d table (sheet past) t.desk t.call (length t.list))) refl (agrees past k h)
    where
      go : (b : Bool) → accepted (answered d table (sheet past) t.desk t.call (length t.list)) ≡ b → Agrees (sheet past) k (calls k past)
          → Agrees (cond b (changed (sheet past) t.desk t.call) (sheet past)) k
          (cond (eqb t.desk k && b) (t.call ∷ calls k past) (calls k past))
      go true e g =
          let has = call_has good (reached good past) t.desk t.call (length t.list) e in
          rw (accepted_call (eqb t.desk k) (t.call ∷ calls k past) (calls k past))
          (agrees_after (reached good past) t.desk has.0 t.call has.1 k (calls k past) g)
      go false e g = rw (refused_call (eqb t.desk k) (t.call ∷ calls k past) (calls k past)) g

  -- a desk that isn't there is told so: it has no history
  pub no_history : (past : List Turn) (k : ℕ) → desks ≤ k → calls k past ≡ []
  unfolding history class_store
  no_history [] k h = refl
  no_history (t ∷ past) k h =
      go (eqb t.desk k) refl (accepted (answered d table (sheet past) t.desk t.call (length t.list))) refl (no_history past k h)
    where
      go : (a : Bool) → eqb t.desk k ≡ a → (b : Bool) → accepted (answered d table (sheet past) t.desk t.call (length t.list)) ≡ b
          → calls k past ≡ [] → cond (a && b) (t.call ∷ calls k past) (calls k past) ≡ []
      go false p b q e = e
      go true p false q e = e
      go true p true q e =
          absurd (omega (arith, eqb-true t.desk k p, (call_has good (reached good past) t.desk t.call (length t.list) q).0))

  -- ---- how many rows

  pub held_is : (past : List Turn) (k : ℕ) → k < desks → held (sheet past) k ≡ held_by (class_store d table desks) k past
  held_is past k h = sym (length-own (sheet past) k) ∙ ap length (agrees past k h).rows

  pub used_is : (past : List Turn) → (sheet past).used ≡ used_by (class_store d table desks) desks past
  used_is past =
      sym (used_is_held (sheet past) (sound_parts (sheet past) (reached good past).stays-sound).owner)
      ∙ ap (sum_to (held (sheet past))) (reached good past).same_desks
      ∙ sum_ext (held (sheet past)) (λ k. held_by (class_store d table desks) k past) desks (held_is past)

  pub owed_is : (past : List Turn) → owed (sheet past) ≡ owed_by (class_store d table desks) desks past
  owed_is past =
      ap (sum_to (λ k. promised - held (sheet past) k)) (reached good past).same_desks
      ∙ sum_ext (λ k. promised - held (sheet past) k) (λ k. promised - held_by (class_store d table desks) k past) desks
      (λ k h. ap (λ (x : ℕ). promised - x) (held_is past k h))
