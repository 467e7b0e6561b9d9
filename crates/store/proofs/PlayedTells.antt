-- Demand 3 is proved about `class_store`; this is the link to the code: any run of calls that the contracts of `begin` and `desk_call` admit tells
-- each turn what `class_store` tells it. They are the contracts that the prover made of the source. Assumes nothing.
use Prim.Native.Nat.{ℕ}
use mathlib.Core.Path.{◌≡◌, refl, ap, ◌∙◌}
use mathlib.Core.List.{List, [], ◌∷◌}
use lib.ListN.{length}
use contract.Lifetimes.{Lfts}
use denote.Triple.Clauses.{AtExit}
use borrow.Fn.Kinds.{Dens, ended_of}
use Rattle.sets.specs.Rows.{rows_of}
use Rattle.sheet.specs.declared.Sheet.{Sheet}
use Rattle.store.specs.declared.Call.{Call}
use Rattle.store.specs.declared.Reply.{Reply}
use Rattle.store.specs.Desks.{Told}
use Rattle.store.specs.Calls.{begun_sheet, sheet_after, told}
use Rattle.store.specs.Promise.{Turn, Store, sheet_on, class_store}
use Rattle.store.proofs.Runs.{Run, after, saying, run_says}
use Rattle.store.proofs.begin.Kinds as begin-kinds
use Rattle.store.proofs.begin.Reads as begin
use Rattle.store.proofs.desk_call.Kinds as desk-call-kinds
use Rattle.store.proofs.desk_call.Reads as desk-call

-- what a store tells each turn of a run
unfoldable pub tellings : Store → List Turn → List Told
tellings tell [] = []
tellings tell (t ∷ past) = tell past t ∷ tellings tell past

module _ (d : ℕ) (table : List ℕ) (desks : ℕ) where
  -- a sheet that `begin` may hand over
  pub record Begun (s : Sheet) : Type 0 where
    pub κs : Lfts 1
    pub args : Dens κs begin-kinds.ps
    pub reply : Reply
    pub exit : AtExit (ended_of 1 begin-kinds.ps begin-kinds.r) κs
    pub admitted : begin.Post κs args reply exit
    pub lends : (rows_of args.0.now ≡ table) × (args.1.0 ≡ d) × (args.1.1.0 ≡ desks)
    pub hands_over : s ≡ reply.sheet

  -- what may come of a turn through `desk_call`
  pub record Called (s : Sheet) (t : Turn) (o : Told) (s' : Sheet) : Type 0 where
    pub κs : Lfts 2
    pub args : Dens κs desk-call-kinds.ps
    pub reply : Reply
    pub exit : AtExit (ended_of 2 desk-call-kinds.ps desk-call-kinds.r) κs
    pub admitted : desk-call.Post κs args reply exit
    pub lends : (rows_of args.0.now ≡ table) × (args.1.0 ≡ d) × (args.1.1.0 ≡ s)
    pub asks : (args.1.1.1.0 ≡ t.desk) × (args.1.1.1.1.0 ≡ t.call) × (args.1.1.1.1.1.0.now ≡ t.list)
    pub tells : o ≡ record { answer = reply.answer; list = exit.1.1.1.1.1.0.now }
    pub hands_back : s' ≡ reply.sheet

  -- the turns played, the last first, what each was told, and the sheet that they left
  abbrev pub Played : List Turn → List Told → Sheet → Type 0
  Played = Run Begun Called

  begins : (s : Sheet) → Begun s → s ≡ begun_sheet d table desks
  begins s b =
      let l = b.lends in
      b.hands_over ∙ ap (λ (r : Reply). r.sheet) b.admitted ∙ (λ i. begun_sheet (l.1 i) (l.0 i) (l.2 i))

  -- what the turn is told on this sheet, and the sheet that it leaves
  abbrev pub tells_on : Sheet → Turn → Told
  tells_on s t = told d table s t.desk t.call t.list

  abbrev pub leaves_on : Sheet → Turn → Sheet
  leaves_on s t = sheet_after d table s t.desk t.call (length t.list)

  -- where a turn's arguments are lent and asked as these
  pub as_lent : {table' : List ℕ} {d' k : ℕ} {x s : Sheet} {t : Turn} {c : Call} {list : List ℕ} → (table' ≡ table) × (d' ≡ d) × (x ≡ s)
      → (k ≡ t.desk) × (c ≡ t.call) × (list ≡ t.list)
      → (told d' table' x k c list ≡ tells_on s t) × (sheet_after d' table' x k c (length list) ≡ leaves_on s t)
  as_lent l q = (
    λ i. told (l.1 i) (l.0 i) (l.2 i) (q.0 i) (q.1 i) (q.2 i),
    λ i. sheet_after (l.1 i) (l.0 i) (l.2 i) (q.0 i) (q.1 i) (length (q.2 i)),
  )

  turns : (s : Sheet) (t : Turn) (o : Told) (s' : Sheet) → Called s t o s' → (o ≡ tells_on s t) × (s' ≡ leaves_on s t)
  turns s t o s' c =
      let lent = as_lent c.lends c.asks in (
        c.tells ∙ (λ i. record { answer = (c.admitted.0 i).answer; list = c.admitted.1 i }) ∙ lent.0,
        c.hands_back ∙ ap (λ (r : Reply). r.sheet) c.admitted.0 ∙ lent.1,
      )

  -- the sheets of such a run are those of `class_store`
  after_on : (past : List Turn) → after (begun_sheet d table desks) tells_on leaves_on past ≡ sheet_on d table desks past
  unfolding after sheet_on
  after_on [] = refl
  after_on (t ∷ past) = ap (λ (s : Sheet). leaves_on s t) (after_on past)

  saying_on : (past : List Turn) → saying (begun_sheet d table desks) tells_on leaves_on past ≡ tellings (class_store d table desks) past
  unfolding saying tellings class_store
  saying_on [] = refl
  saying_on (t ∷ past) = λ i. tells_on (after_on past i) t ∷ saying_on past i

  -- so a run through any door that tells and leaves the same tells each turn what `class_store` tells it
  pub door_tells : {door : Sheet → Turn → Told → Sheet → Type 0}
      → ((s : Sheet) (t : Turn) (o : Told) (s' : Sheet) → door s t o s' → (o ≡ tells_on s t) × (s' ≡ leaves_on s t))
      → {past : List Turn} {said : List Told} {s : Sheet} → Run Begun door past said s
      → (said ≡ tellings (class_store d table desks) past) × (s ≡ sheet_on d table desks past)
  door_tells same {past} run =
      let p = run_says (begun_sheet d table desks) tells_on leaves_on begins same run in (p.0 ∙ saying_on past, p.1 ∙ after_on past)

  pub played_tells : {past : List Turn} {said : List Told} {s : Sheet} → Played past said s
      → (said ≡ tellings (class_store d table desks) past) × (s ≡ sheet_on d table desks past)
  played_tells run = door_tells turns run
