-- A class server's run, in place: any run of turns that the contract of `alter` admits, on the sheet that `begin` handed over, tells each turn what
-- `class_store` tells it, of which demand 3 is proved. Assumes nothing.
use Prim.Native.Nat.{ℕ}
use mathlib.Core.Path.{◌≡◌, ◌∙◌}
use mathlib.Core.List.{List}
use contract.Lifetimes.{Lfts}
use denote.Triple.Entry.{Args}
use denote.Triple.Clauses.{AtExit}
use Rattle.sheet.specs.declared.Sheet.{Sheet}
use Rattle.sets.specs.Rows.{rows_of}
use Rattle.std.specs.Prelude.{Result}
use Rattle.refusals.specs.declared.Refusal.{Refusal}
use Rattle.store.specs.declared.Answer.{Answer}
use Rattle.store.specs.Desks.{Told}
use Rattle.store.specs.Promise.{Turn, sheet_on, class_store}
use Rattle.store.proofs.Runs.{Run}
use Rattle.store.proofs.PlayedTells.{Begun, tells_on, leaves_on, as_lent, tellings, door_tells}
use Rattle.server.proofs.Determined.{Alters}
use Rattle.server.specs.contracts.alter as alter

module _ (d : ℕ) (table : List ℕ) (desks : ℕ) where
  -- what may come of a turn through `alter`, on the sheet as the turn before it left it
  pub record Altered (s : Sheet) (t : Turn) (o : Told) (s' : Sheet) : Type 0 where
    pub κs : Lfts 3
    pub args : Args alter.signature κs
    pub answer : Result Answer Refusal
    pub exit : AtExit alter.ended κs
    pub admitted : Alters κs args answer exit
    pub lends : (rows_of args.1.0.now ≡ table) × (args.1.1.0 ≡ d) × (args.0.now ≡ s)
    pub asks : (args.1.1.1.0 ≡ t.desk) × (args.1.1.1.1.0 ≡ t.call) × (args.1.1.1.1.1.0.now ≡ t.list)
    pub tells : o ≡ record { answer = answer; list = exit.1.1.1.1.1.0.now }
    pub leaves : s' ≡ exit.0.now

  turns : (s : Sheet) (t : Turn) (o : Told) (s' : Sheet) → Altered s t o s' → (o ≡ tells_on d table desks s t) × (s' ≡ leaves_on d table desks s t)
  turns s t o s' c =
      let lent = as_lent d table desks c.lends c.asks in (
        c.tells ∙ (λ i. record { answer = c.admitted.0 i; list = c.admitted.2 i }) ∙ lent.0,
        c.leaves ∙ c.admitted.1 ∙ lent.1,
      )

  pub alter_played_tells : {past : List Turn} {said : List Told} {s : Sheet} → Run (Begun d table desks) Altered past said s
      → (said ≡ tellings (class_store d table desks) past) × (s ≡ sheet_on d table desks past)
  alter_played_tells run = door_tells d table desks turns run
