-- A host's run by plain numbers: any run that the contracts of `foliokettle_begin` and `foliokettle_call` admit, or `foliokettle_alter` in its place,
-- tells each turn the numbers of what `class_store` tells it, of which demand 3 is proved. What is no call changes nothing. Assumes nothing.
use Prim.Native.Nat.{ℕ}
use mathlib.Core.Path.{◌≡◌, refl, ap, ◌∙◌}
use mathlib.Core.List.{List, [], ◌∷◌}
use lib.ListN.{length}
use contract.Lifetimes.{Lfts}
use denote.Triple.Entry.{Args}
use denote.Triple.Clauses.{AtExit}
use borrow.Fn.Kinds.{Dens, ended_of}
use Rattle.std.specs.Prelude.{Option, Some, None}
use Rattle.sheet.specs.declared.Sheet.{Sheet}
use Rattle.sets.specs.Rows.{rows_of}
use Rattle.store.specs.declared.Call.{Call}
use Rattle.store.specs.Calls.{begun_sheet, sheet_after, told}
use Rattle.store.specs.Promise.{Turn, Store, sheet_on, class_store}
use Rattle.store.proofs.Runs.{Run, after, saying, run_says}
use Rattle.host.specs.declared.spoken.Plain.{Plain}
use Rattle.host.specs.declared.spoken.Handed.{Handed}
use Rattle.host.specs.Spoken.{asked_by, plain_of, no_call, handed_by, list_of}
use Rattle.host.proofs.Determined.{Alters}
use Rattle.host.proofs.foliokettle_begin.Kinds as begin-kinds
use Rattle.host.proofs.foliokettle_begin.Reads as begin
use Rattle.host.proofs.foliokettle_call.Kinds as call-kinds
use Rattle.host.proofs.foliokettle_call.Reads as call
use Rattle.host.specs.contracts.foliokettle_alter as alter

-- what a host asks in a turn, and what it has once the turn is over
pub record Ask : Type 0 where
  pub desk : ℕ
  pub kind : ℕ
  pub n : ℕ
  pub list : List ℕ

pub record Heard : Type 0 where
  pub told : Plain
  pub list : List ℕ

-- ---- what a store's turns are to a host

-- the turn of a call, put before the others; what is no call is no turn
abbrev turn_by : Option Call → Ask → List Turn → List Turn
turn_by (Some c) a ts = record { desk = a.desk; call = c; list = a.list } ∷ ts
turn_by None a ts = ts

unfoldable pub turns_of : List Ask → List Turn
turns_of [] = []
turns_of (a ∷ past) = turn_by (asked_by a.kind a.n) a (turns_of past)

-- an answer's numbers and the list; what is no call is told so, and its list stays
abbrev heard_by : Store → List Turn → Option Call → Ask → Heard
heard_by tell ts (Some c) a =
    let t : Turn = record { desk = a.desk; call = c; list = a.list } in record { told = plain_of (tell ts t).answer; list = (tell ts t).list }
heard_by tell ts None a = record { told = no_call; list = a.list }

unfoldable pub hearings : Store → List Ask → List Heard
hearings tell [] = []
hearings tell (a ∷ past) = heard_by tell (turns_of past) (asked_by a.kind a.n) a ∷ hearings tell past

-- ---- the runs that the contracts admit

module _ (d : ℕ) (table : List ℕ) (desks : ℕ) where
  pub record Begun (s : Sheet) : Type 0 where
    pub κs : Lfts 1
    pub args : Dens κs begin-kinds.ps
    pub handed : Handed
    pub exit : AtExit (ended_of 1 begin-kinds.ps begin-kinds.r) κs
    pub admitted : begin.Post κs args handed exit
    pub lends : (rows_of args.0.now ≡ table) × (args.1.0 ≡ d) × (args.1.1.0 ≡ desks)
    pub hands_over : s ≡ handed.sheet

  pub record Called (s : Sheet) (a : Ask) (o : Heard) (s' : Sheet) : Type 0 where
    pub κs : Lfts 2
    pub args : Dens κs call-kinds.ps
    pub handed : Handed
    pub exit : AtExit (ended_of 2 call-kinds.ps call-kinds.r) κs
    pub admitted : call.Post κs args handed exit
    pub lends : (rows_of args.0.now ≡ table) × (args.1.0 ≡ d) × (args.1.1.0 ≡ s)
    pub asks : (args.1.1.1.0 ≡ a.desk) × (args.1.1.1.1.0 ≡ a.kind) × (args.1.1.1.1.1.0 ≡ a.n)
        × (args.1.1.1.1.1.1.0.now ≡ a.list)
    pub tells : o ≡ record { told = handed.told; list = exit.1.1.1.1.1.1.0.now }
    pub hands_back : s' ≡ handed.sheet

  pub record Altered (s : Sheet) (a : Ask) (o : Heard) (s' : Sheet) : Type 0 where
    pub κs : Lfts 3
    pub args : Args alter.signature κs
    pub told : Plain
    pub exit : AtExit alter.ended κs
    pub admitted : Alters κs args told exit
    pub lends : (rows_of args.1.0.now ≡ table) × (args.1.1.0 ≡ d) × (args.0.now ≡ s)
    pub asks : (args.1.1.1.0 ≡ a.desk) × (args.1.1.1.1.0 ≡ a.kind) × (args.1.1.1.1.1.0 ≡ a.n)
        × (args.1.1.1.1.1.1.0.now ≡ a.list)
    pub tells : o ≡ record { told = told; list = exit.1.1.1.1.1.1.0.now }
    pub leaves : s' ≡ exit.0.now

  -- ---- what they come to

  begins : (s : Sheet) → Begun s → s ≡ begun_sheet d table desks
  begins s b =
      let l = b.lends in
      b.hands_over ∙ ap (λ (h : Handed). h.sheet) b.admitted ∙ (λ i. begun_sheet (l.1 i) (l.0 i) (l.2 i))

  abbrev tells_on : Sheet → Ask → Heard
  tells_on s a = record {
    told = (handed_by (asked_by a.kind a.n) d table s a.desk (length a.list)).told;
    list = list_of (asked_by a.kind a.n) d table s a.desk a.list;
  }

  abbrev leaves_on : Sheet → Ask → Sheet
  leaves_on s a = (handed_by (asked_by a.kind a.n) d table s a.desk (length a.list)).sheet

  -- where the arguments are lent and asked as these
  as_lent : {table' : List ℕ} {d' k kind n : ℕ} {x s : Sheet} {a : Ask} {list : List ℕ} → (table' ≡ table) × (d' ≡ d) × (x ≡ s)
      → (k ≡ a.desk) × (kind ≡ a.kind) × (n ≡ a.n) × (list ≡ a.list) → let asked = asked_by kind n in
      (record { told = (handed_by asked d' table' x k (length list)).told; list = list_of asked d' table' x k list } ≡ tells_on s a)
      × ((handed_by asked d' table' x k (length list)).sheet ≡ leaves_on s a)
  as_lent l q = (
    λ i. record {
      told = (handed_by (asked_by (q.1 i) (q.2 i)) (l.1 i) (l.0 i) (l.2 i) (q.0 i) (length (q.3 i))).told;
      list = list_of (asked_by (q.1 i) (q.2 i)) (l.1 i) (l.0 i) (l.2 i) (q.0 i) (q.3 i);
    },
    λ i. (handed_by (asked_by (q.1 i) (q.2 i)) (l.1 i) (l.0 i) (l.2 i) (q.0 i) (length (q.3 i))).sheet,
  )

  called : (s : Sheet) (a : Ask) (o : Heard) (s' : Sheet) → Called s a o s' → (o ≡ tells_on s a) × (s' ≡ leaves_on s a)
  called s a o s' c =
      let lent = as_lent c.lends c.asks in (
        c.tells ∙ (λ i. record { told = (c.admitted.0 i).told; list = c.admitted.1 i }) ∙ lent.0,
        c.hands_back ∙ ap (λ (h : Handed). h.sheet) c.admitted.0 ∙ lent.1,
      )

  altered : (s : Sheet) (a : Ask) (o : Heard) (s' : Sheet) → Altered s a o s' → (o ≡ tells_on s a) × (s' ≡ leaves_on s a)
  altered s a o s' c =
      let lent = as_lent c.lends c.asks in (
        c.tells ∙ (λ i. record { told = c.admitted.0 i; list = c.admitted.2 i }) ∙ lent.0,
        c.leaves ∙ c.admitted.1 ∙ lent.1,
      )

  after_on : (past : List Ask) → after (begun_sheet d table desks) tells_on leaves_on past ≡ sheet_on d table desks (turns_of past)
  unfolding after sheet_on turns_of
  after_on [] = refl
  after_on (a ∷ past) = go (asked_by a.kind a.n) (after_on past)
    where
      go : (asked : Option Call) {s : Sheet} → s ≡ sheet_on d table desks (turns_of past)
          → (handed_by asked d table s a.desk (length a.list)).sheet ≡ sheet_on d table desks (turn_by asked a (turns_of past))
      go (Some c) e = ap (λ (s : Sheet). sheet_after d table s a.desk c (length a.list)) e
      go None e = e

  saying_on : (past : List Ask) → saying (begun_sheet d table desks) tells_on leaves_on past ≡ hearings (class_store d table desks) past
  unfolding saying hearings class_store
  saying_on [] = refl
  saying_on (a ∷ past) = λ i. go (asked_by a.kind a.n) (after_on past) i ∷ saying_on past i
    where
      go : (asked : Option Call) {s : Sheet} → s ≡ sheet_on d table desks (turns_of past)
          → record { told = (handed_by asked d table s a.desk (length a.list)).told; list = list_of asked d table s a.desk a.list }
          ≡ heard_by (class_store d table desks) (turns_of past) asked a
      go (Some c) e =
          λ i. let o = told d table (e i) a.desk c a.list in record { told = plain_of o.answer; list = o.list }
      go None e = refl

  pub door_hears : {door : Sheet → Ask → Heard → Sheet → Type 0}
      → ((s : Sheet) (a : Ask) (o : Heard) (s' : Sheet) → door s a o s' → (o ≡ tells_on s a) × (s' ≡ leaves_on s a))
      → {past : List Ask} {said : List Heard} {s : Sheet} → Run Begun door past said s
      → (said ≡ hearings (class_store d table desks) past) × (s ≡ sheet_on d table desks (turns_of past))
  door_hears same {past} run =
      let p = run_says (begun_sheet d table desks) tells_on leaves_on begins same run in (p.0 ∙ saying_on past, p.1 ∙ after_on past)

  pub host_call_played_tells : {past : List Ask} {said : List Heard} {s : Sheet} → Run Begun Called past said s
      → (said ≡ hearings (class_store d table desks) past) × (s ≡ sheet_on d table desks (turns_of past))
  host_call_played_tells run = door_hears called run

  pub host_alter_played_tells : {past : List Ask} {said : List Heard} {s : Sheet} → Run Begun Altered past said s
      → (said ≡ hearings (class_store d table desks) past) × (s ≡ sheet_on d table desks (turns_of past))
  host_alter_played_tells run = door_hears altered run
