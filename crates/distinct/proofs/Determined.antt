-- `ask` is public: its contract asks nothing, and leaves no choice, the lent list included. Assumes nothing.
use Prim.Native.Nat.{ℕ}
use mathlib.Core.Path.{sym, ap, ◌∙◌}
use mathlib.Core.List.{List}
use Rattle.sets.specs.Rows.{rows_of}
use Rattle.walks.proofs.Public.{Public}
use Rattle.std.specs.Prelude.{Result}
use Rattle.refusals.specs.declared.Refusal.{Refusal}
use Rattle.distinct.specs.Asked.{listed}
use Rattle.distinct.proofs.ask.Kinds as ask-kinds
use Rattle.distinct.proofs.ask.Reads as ask

pub ask_determined : Public 2 ask-kinds.ps ask-kinds.r ask.Asked ask.Post (Result ℕ Refusal × List ℕ) (λ κs r e. (r, e.1.1.0.now))
ask_determined = record {
  asks_nothing = λ κs a. tt;
  determined = λ κs a r r' e e' p q.
      let same = p.0 ∙ sym q.0 in
      let lists = p.1 ∙ ap (listed a.0 (rows_of a.1.0.now) a.1.1.0.now) same ∙ sym q.1 in
      λ i. (same i, lists i);
}
