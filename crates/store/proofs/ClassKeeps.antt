-- Our store meets demand 3. Assumes nothing.
use Prim.Native.Nat.{ℕ, ◌+◌, ◌≤◌, ◌<◌}
use mathlib.Core.Path.{◌≡◌, refl, sym, ap, ◌∙◌}
use mathlib.Core.Logic.{◌≢◌}
use mathlib.Core.Bool.{Bool, true, false}
use mathlib.Core.List.{List, [], ◌∷◌}
use native.Mathlib.Omega.{arith}
use lib.Dec.{leb, ltb}
use lib.ListN.{length}
use borrow.Author.Tests.{ltb-true, lt-ltb, leb-true, leb-false, lt-leb, eqb-true, eq-eqb}
use Rattle.std.specs.Prelude.{Result, Err}
use Rattle.sets.specs.Limits.{most_held, most_places, promised}
use Rattle.sets.proofs.Bools.{and_left, and_right, and_both}
use Rattle.sheet.specs.declared.Sheet.{Sheet}
use Rattle.sheet.specs.Sheets.{own, owed, hides}
use Rattle.sheet.proofs.SoundParts.{Sound, sound_parts}
use Rattle.refusals.specs.declared.Refusal.{Refusal}
use Rattle.store.specs.declared.Call.{Call}
use Rattle.refusals.specs.declared.Refusal.TheVariants.{NoDesk}
use Rattle.store.specs.declared.Answer.{Answer}
use Rattle.refusals.specs.Cases.{◌gives◌, decided}
use Rattle.refusals.specs.Refusals.{number_of}
use Rattle.store.specs.Answers.{accepted}
use Rattle.store.specs.Desks.{serve, list_after, telling, written, Told}
use Rattle.store.specs.Calls.{begun_answer, crowded}
use Rattle.store.specs.Promise.{Turn, Store, hidden_in, own_in, member, alone, history, held_by, used_by, owed_by}
use Rattle.store.specs.Promise.{proper_call, proper_insert, Demand3, sheet_on, class_store}
use Rattle.store.proofs.Judging.{Good, good_parts, given, not_given, skipped}
use Rattle.store.proofs.SheetRuns.{reached, answered_here}
use Rattle.store.proofs.DeskRuns.{agrees, no_history, held_is, used_is, owed_is}
use Rattle.store.proofs.Told.{serve_same, telling_same, ten_is, serve_ten, ten_serve, serve_next, serve_but_ten}

-- what a proper insert has
pub proper_parts : (d desks : ℕ) (t : Turn) → proper_insert d desks t ≡ true → (t.desk < desks) × (proper_call d t.call ≡ true)
unfolding proper_insert
proper_parts d desks t p =
    let there = ltb t.desk desks in
    let proper = proper_call d t.call in
    (ltb-true t.desk desks (and_left there proper p), and_right there proper p)

module _ {d : ℕ} {table : List ℕ} {desks : ℕ} (good : Good d table desks) (past : List Turn) where
  abbrev tell : Store
  tell = class_store d table desks

  abbrev s : Sheet
  s = sheet_on d table desks past

  s_sound : Sound s
  s_sound = sound_parts s (reached good past).stays-sound

  -- ---- the limits

  most_held_lem : (k : ℕ) → held_by tell k past ≤ most_held
  unfolding own_in
  most_held_lem k = go (leb desks k) refl
    where
      go : (b : Bool) → leb desks k ≡ b → held_by tell k past ≤ most_held
      go true e = rw (no_history good past k (leb-true desks k e)) (omega arith)
      go false e =
          let h = leb-false desks k e in
          omega (arith, held_is good past k h, s_sound.share k (omega (arith, (reached good past).same_desks)))

  most_used : used_by tell desks past ≤ most_places
  most_used = omega (arith, used_is good past, s_sound.places)

  -- ---- one turn

  module _ (t : Turn) where
    -- what is served to desk t .desk as the sheet has it
    abbrev served : Result Answer Refusal
    served = serve d table (crowded s) (length t.list) (hides s.marks t.desk) (own s t.desk) t.call

    told_here : (tell past t).answer ≡ decided Err ((leb desks t.desk gives NoDesk) ∷ []) served
    unfolding class_store
    told_here = answered_here good (reached good past) t.desk t.call (length t.list)

    told_served : t.desk < desks → (tell past t).answer ≡ served
    told_served h = told_here ∙ not_given (leb desks t.desk) NoDesk served (lt-leb desks t.desk h)

    next_accepted : proper_insert d desks t ≡ true → held_by tell t.desk past < promised → accepted (tell past t).answer ≡ true
    next_accepted p few =
        let q = proper_parts d desks t p in
        ap accepted (told_served q.0)
        ∙ serve_next d table (crowded s) (length t.list) (hides s.marks t.desk) (own s t.desk) t.call q.1
        (omega (arith, ap length (agrees good past t.desk q.0).rows))

    -- when demand 3 has refusal 10 given
    abbrev NoPlace : Type 0
    NoPlace =
        (proper_insert d desks t ≡ true) × (promised ≤ held_by tell t.desk past) × (held_by tell t.desk past < most_held)
        × (used_by tell desks past + owed_by tell desks past ≡ most_places)

    ten_given : number_of (tell past t).answer ≡ 10 → NoPlace
    unfolding proper_insert decided crowded
    ten_given e =
        let p = skipped 10 (leb desks t.desk) NoDesk [] served (omega arith) (sym (ap number_of told_here) ∙ e) in
        let h = leb-false desks t.desk p.0 in
        let q = serve_ten d table (crowded s) (length t.list) (hides s.marks t.desk) (own s t.desk) t.call p.1 in
        let rows = ap length (agrees good past t.desk h).rows in (
          and_both (ltb t.desk desks) (proper_call d t.call) (lt-ltb t.desk desks h) q.0,
          omega (arith, q.1),
          omega (arith, q.2),
          omega (arith, eqb-true (s.used + owed s) most_places q.3, used_is good past, owed_is good past),
        )

    given_ten : NoPlace → number_of (tell past t).answer ≡ 10
    unfolding crowded
    given_ten g =
        let q = proper_parts d desks t g.0 in
        let rows = ap length (agrees good past t.desk q.0).rows in
        ap number_of (told_served q.0)
        ∙ ten_serve d table (crowded s) (length t.list) (hides s.marks t.desk) (own s t.desk) t.call q.1 (omega (arith, g.1))
        (omega (arith, g.2))
        (eq-eqb (s.used + owed s) most_places (omega (arith, used_is good past, owed_is good past, g.3)))

    abbrev h : List Call
    h = history tell t.desk past

    -- what the desk alone is served
    abbrev mine : (ℕ → Bool) → List ℕ → Result Answer Refusal
    mine hid rows = serve d table false (length t.list) hid rows t.call

    abbrev mine_alone : Result Answer Refusal
    mine_alone = mine (member (hidden_in h)) (own_in h)

    -- and told of an answer
    abbrev tells_alone : Result Answer Refusal → Told
    tells_alone = telling d table (member (hidden_in h)) (own_in h) t.call t.list

    told-alone : number_of (tell past t).answer ≢ 10 → tell past t ≡ alone d table desks h t
    unfolding class_store alone list_after accepted
    told-alone ne = go (leb desks t.desk) refl
      where
        go : (b : Bool) → leb desks t.desk ≡ b → tell past t ≡ alone d table desks h t
        go true e =
            ap (telling d table (hides s.marks t.desk) (own s t.desk) t.call t.list)
            (told_here ∙ given (leb desks t.desk) NoDesk served e)
            ∙ sym (ap tells_alone (given (leb desks t.desk) NoDesk mine_alone e))
        go false e =
            let there = leb-false desks t.desk e in
            let g = agrees good past t.desk there in
            let here = told_served there in
            let hid = hides s.marks t.desk in
            let same : (n : ℕ) → n < length table → hid n ≡ member (hidden_in h) n = λ n l. g.marks n (omega (arith, good.right.small)) in
            ap (telling d table hid (own s t.desk) t.call t.list)
            (here ∙ serve_but_ten d table (crowded s) (length t.list) hid (own s t.desk) t.call (λ q. ne (ap number_of here ∙ q)))
            ∙ ap (λ (o : List ℕ). telling d table hid o t.call t.list (mine hid o)) g.rows
            ∙ ap (telling d table hid (own_in h) t.call t.list)
            (serve_same table hid (member (hidden_in h)) (own_in h) same d false (length t.list) t.call)
            ∙ telling_same table hid (member (hidden_in h)) (own_in h) same d t.call t.list mine_alone
            ∙ sym (ap tells_alone (not_given (leb desks t.desk) NoDesk mine_alone e))

    ten_writes_nothing : number_of (tell past t).answer ≡ 10 → (tell past t).list ≡ t.list
    unfolding class_store list_after accepted
    ten_writes_nothing e =
        ap (λ (a : Result Answer Refusal). list_after (written d table (hides s.marks t.desk) (own s t.desk) t.call) a t.list)
        (ten_is (tell past t).answer e)

pub class_keeps : (d : ℕ) (table : List ℕ) (desks : ℕ) → accepted (begun_answer d table desks) ≡ true
    → Demand3 d table desks (class_store d table desks)
class_keeps d table desks begun =
    let good = good_parts d table desks begun in
    record {
      next = next_accepted good;
      desk_limit = most_held_lem good;
      class_limit = most_used good;
      no_room = λ past t. (ten_given good past t, given_ten good past t);
      as_alone = told-alone good;
      no_room_list = ten_writes_nothing good;
    }
