-- `begin` and `desk_call` are public: their contracts ask nothing, and leave no choice. Assumes nothing.
use Prim.Native.Nat.{ℕ}
use mathlib.Core.Path.{sym, ◌∙◌}
use mathlib.Core.List.{List}
use Rattle.walks.proofs.Public.{Public}
use Rattle.store.specs.declared.Reply.{Reply}
use Rattle.store.proofs.begin.Kinds as begin-kinds
use Rattle.store.proofs.begin.Reads as begin
use Rattle.store.proofs.desk_call.Kinds as desk-call-kinds
use Rattle.store.proofs.desk_call.Reads as desk-call

pub begin_determined : Public 1 begin-kinds.ps begin-kinds.r begin.Asked begin.Post Reply (λ κs r e. r)
begin_determined = record { asks_nothing = λ κs a. tt; determined = λ κs a r r' e e' p q. p ∙ sym q }

-- the reply, which has the answer and the sheet, and every place of the lent list
pub desk_call_determined : Public 2 desk-call-kinds.ps desk-call-kinds.r desk-call.Asked desk-call.Post
    (Reply × List ℕ) (λ κs r e. (r, e.1.1.1.1.1.0.now))
desk_call_determined =
    record { asks_nothing = λ κs a. tt; determined = λ κs a r r' e e' p q i. ((p.0 ∙ sym q.0) i, (p.1 ∙ sym q.1) i) }
