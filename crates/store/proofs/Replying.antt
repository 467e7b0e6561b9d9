-- The refusals in their order, as the code meets them, and what is handed back with each. Assumes nothing.
use Prim.Native.Nat.{ℕ, zero, ◌-◌, ◌<◌}
use mathlib.Core.Path.{◌≡◌, refl, sym, ap, ◌∙◌}
use mathlib.Core.Logic.{inl, inr}
use mathlib.Core.Bool.{Bool, true, false, cond, ◌&&◌, ◌||◌, false≢true}
use mathlib.Core.List.{List, [], ◌∷◌}
use native.Mathlib.Omega.{arith}
use lib.Dec.{eqb, ltb}
use lib.ListN.{length}
use borrow.Author.Tests.{eqb-true, leb-false, not-false}
use Rattle.std.specs.Prelude.{Result, Ok, Err, is_ok}
use Rattle.sets.proofs.Bools.{and_left, and_right}
use Rattle.sheet.specs.declared.Sheet.{Sheet}
use Rattle.sheet.specs.Sheets.{own, held, hides, sound}
use Rattle.sheet.specs.Changes.{fresh_sheet}
use Rattle.sheet.proofs.UptoLaws.{sum_part}
use Rattle.sheet.proofs.OwnAfter.{length-own}
use Rattle.refusals.specs.declared.Refusal.{Refusal}
use Rattle.store.specs.declared.Target.TheVariants.{Table, Own}
use Rattle.store.specs.declared.Call.{Call}
use Rattle.store.specs.declared.Call.TheVariants.{Do, Ask}
use Rattle.store.specs.declared.Question.{Question}
use Rattle.store.specs.declared.Change.TheVariants.{Delete, Insert, Reset}
use Rattle.refusals.specs.declared.Refusal.TheVariants.{Unsound, BadDesks}
use Rattle.store.specs.declared.Answer.{Answer}
use Rattle.store.specs.declared.Reply.{Reply}
use Rattle.store.specs.declared.Answer.TheVariants.{Done}
use Rattle.refusals.specs.Cases.{Case, ◌gives◌, decided}
use Rattle.store.specs.Answers.{accepted}
use Rattle.store.specs.Desks.{serve, written, list_after}
use Rattle.sets.specs.Limits.{most_rows, most_desks, most_places, promised}
use Rattle.refusals.specs.TableCases.{table_cases}
use Rattle.theory.specs.Pairings.{at}
use Rattle.store.specs.Calls.{begin_cases, desk_cases, sheet_cases, crowded, begun_answer, begun_sheet, begun}
use Rattle.store.specs.Calls.{answered, changed, sheet_after, replied, told}
use Rattle.store.specs.Code.Serving.{Trusted, Served, Possible, Responded, CarriedOut}
use Rattle.refusals.proofs.Outcomes.{stands, refuses}
use Rattle.refusals.proofs.TablesJudged.{judgement, judged_right, judged_refused, refused_first, passed_first}
use Rattle.store.proofs.Judging.{Allowed, allowed, has_room}
use Rattle.store.proofs.Trusting.{Limits, limits}

-- ---- begin

module _ (d : ℕ) (table : List ℕ) (desks : ℕ) where
  abbrev cases : List Case
  cases = begin_cases d table desks

  -- once 1 and 2 are out, 13 is judged
  pub begin_judged : judgement (table_cases most_rows d table) ≡ Ok tt → (b : Bool) → (eqb desks zero || ltb most_desks desks) ≡ b
      → judgement cases ≡ cond b (Err BadDesks) (Ok tt)
  unfolding decided
  begin_judged right b e =
      passed_first (table_cases most_rows d table) (((eqb desks zero || ltb most_desks desks) gives BadDesks) ∷ []) (Ok tt) right ∙ (rw e refl)

  pub begun_refused : (r : Refusal) → judgement cases ≡ Err r → record { answer = Err r; sheet = fresh_sheet zero zero zero } ≡ begun d table desks
  unfolding begun_answer begun_sheet accepted
  begun_refused r e = let told = refuses Err cases r (judged_refused cases r e) (Ok Done) in rw told refl

  pub begun_right : judgement cases ≡ Ok tt → record { answer = Ok Done; sheet = fresh_sheet d (length table) desks } ≡ begun d table desks
  unfolding begun_answer begun_sheet accepted
  begun_right e = let told = stands Err cases (judged_right cases e) (Ok Done) in rw told refl

-- ---- a desk's call

-- what the caller has once the call is over
abbrev pub Outcome : ℕ → List ℕ → Sheet → ℕ → Call → List ℕ → Reply → List ℕ → Type 0
Outcome d table s k c old r list = (r ≡ replied d table s k c (length old)) × (list ≡ (told d table s k c old).list)

-- what is `Ok` is accepted
pub ok_accepted : {A : Type 0} (r : Result A Refusal) → is_ok r ≡ accepted r
unfolding accepted
ok_accepted (Ok a) = refl
ok_accepted (Err r) = refl

silent_refusal : (front list : List ℕ) (a : Result Answer Refusal) → accepted a ≡ false → list_after front a list ≡ list
unfolding list_after
silent_refusal front list a e = rw e refl

module _ (d : ℕ) (table : List ℕ) (s : Sheet) (k : ℕ) (c : Call) (old : List ℕ) where
  -- what the desk is served, once no refusal of 1 to 5 is given
  abbrev here : Result Answer Refusal
  here = serve d table (crowded s) (length old) (hides s.marks k) (own s k) c

  -- a refusal leaves the list
  refused : (r : Refusal) → answered d table s k c (length old) ≡ Err r → Responded d table s k c old (Err r) old
  unfolding accepted
  refused r e = record {
    answer_is = sym e;
    list_is = rw e (sym (silent_refusal (written d table (hides s.marks k) (own s k) c) old (Err r) refl));
    room = λ t. absurd (false≢true t);
  }

  -- refusals 1 and 2
  pub table_refused : (r : Refusal) → judgement (table_cases most_rows d table) ≡ Err r → Responded d table s k c old (Err r) old
  unfolding answered
  table_refused r e = refused r (refused_first (table_cases most_rows d table) (sheet_cases d table s k) here r e)

  module _ (right : judgement (table_cases most_rows d table) ≡ Ok tt) where
    on : answered d table s k c (length old) ≡ decided Err (sheet_cases d table s k) here
    unfolding answered
    on = passed_first (table_cases most_rows d table) (sheet_cases d table s k) here right

    -- refusal 3
    pub sheet_refused : sound s ≡ false → Responded d table s k c old (Err Unsound) old
    unfolding sheet_cases decided
    sheet_refused e = refused Unsound (on ∙ (rw e refl))

    module _ (whole : sound s ≡ true) where
      abbrev tried : List Case
      tried = desk_cases d (length table) s.d s.rows s.desks k

      on_desk : answered d table s k c (length old) ≡ decided Err tried here
      unfolding sheet_cases decided
      on_desk = on ∙ (rw whole refl)

      -- refusals 4 and 5
      pub desk_refused : (r : Refusal) → judgement tried ≡ Err r → Responded d table s k c old (Err r) old
      desk_refused r e = refused r (on_desk ∙ refuses Err tried r (judged_refused tried r e) here)

      -- refusals 6 to 12, and the answers
      call_served : judgement tried ≡ Ok tt → (a : Result Answer Refusal) (list : List ℕ) → Served d table s k c old a list
          → (accepted a ≡ true → Possible s k c) → Responded d table s k c old a list
      call_served known a list served can =
          let is : answered d table s k c (length old) ≡ a
          = on_desk ∙ stands Err tried (judged_right tried known) here ∙ sym served.answer_is in
          record { answer_is = sym is; list_is = rw is served.list_is; room = can }

  -- ---- and the sheet

  module _ (a : Result Answer Refusal) (list : List ℕ) (R : Responded d table s k c old a list) where
    -- a refusal hands back the sheet
    pub carried_refused : accepted a ≡ false → CarriedOut d table s k c old a s list
    unfolding sheet_after
    carried_refused n = let says : accepted (answered d table s k c (length old)) ≡ false = ap accepted (sym R.answer_is) ∙ n in
        record { answer_is = R.answer_is; sheet_is = rw says refl; list_is = R.list_is }

    pub carried_accepted : accepted a ≡ true → (after : Sheet) → after ≡ changed s k c → CarriedOut d table s k c old a after list
    unfolding sheet_after
    carried_accepted t after e = let says : accepted (answered d table s k c (length old)) ≡ true = ap accepted (sym R.answer_is) ∙ t in
        record { answer_is = R.answer_is; sheet_is = rw says e; list_is = R.list_is }

    -- and so does a question, whatever it is answered
    pub carried_question : (q : Question) → c ≡ Ask q → CarriedOut d table s k c old a s list
    unfolding changed
    carried_question q e = go (accepted a) refl
      where
        go : (b : Bool) → accepted a ≡ b → CarriedOut d table s k c old a s list
        go true t = carried_accepted t s (rw e refl)
        go false n = carried_refused n

-- ---- once the desk is known

-- an accepted call changes what the sheet can change
possible : (d : ℕ) (table : List ℕ) (s : Sheet) (counts : List ℕ) (k : ℕ) → Trusted d table s counts k → (c : Call) (places : ℕ)
    → accepted (serve d table (crowded s) places (hides s.marks k) (own s k) c) ≡ true → Possible s k c
possible d table s counts k T c places t = go c (allowed d table (crowded s) places (hides s.marks k) (own s k) c t)
  where
    L : Limits d table s counts k
    L = limits d table s counts k T

    has_place : held s k < promised → s.used < most_places
    has_place h = omega (arith, sum_part (λ j. promised - held s j) s.desks k T.desk_there, L.promise)

    go : (c : Call) → Allowed d (length table) (crowded s) (own s k) c → Possible s k c
    go (Do (Delete (Table n))) a = (L.desk, omega (arith, L.table_rows))
    go (Do (Delete (Own n))) a = (L.used, omega (arith, L.share, length-own s k))
    go (Do (Insert row)) a = elim (has_room s T.sheet_right k a.2) [
      | inl h ↦ has_place h
      | inr h ↦ omega arith
    ]
    go (Do Reset) a = (L.used, L.desk)
    go (Ask q) a = tt

module _ (d : ℕ) (table : List ℕ) (s : Sheet) (counts : List ℕ) (k : ℕ)
    (right : judgement (table_cases most_rows d table) ≡ Ok tt)
    (whole : sound s ≡ true) (counted : (j : ℕ) → j < most_desks → at counts j ≡ held s j)
    (known : judgement (desk_cases d (length table) s.d s.rows s.desks k) ≡ Ok tt) where
  pub trusted : Trusted d table s counts k
  trusted =
      let none = judged_right (desk_cases d (length table) s.d s.rows s.desks k) known in
      let same = not-false (eqb s.d d && eqb s.rows (length table)) none.0 in
      record {
        table_right = right;
        sheet_right = whole;
        same_d = eqb-true s.d d (and_left (eqb s.d d) (eqb s.rows (length table)) same);
        same_rows = eqb-true s.rows (length table) (and_right (eqb s.d d) (eqb s.rows (length table)) same);
        desk_there = leb-false s.desks k none.1.0;
        counted = counted;
      }

  pub served_responds : {c : Call} {old : List ℕ} {a : Result Answer Refusal} {list : List ℕ}
      → Served d table s k c old a list → Responded d table s k c old a list
  served_responds {c} {old} {a} {list} served =
      call_served d table s k c old right whole known a list served
      (λ t. possible d table s counts k trusted c (length old) (ap accepted (sym served.answer_is) ∙ t))
