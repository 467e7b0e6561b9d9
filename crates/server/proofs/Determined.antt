-- `alter` and `altered` are public: their contracts ask nothing, and leave no choice. Assumes nothing.
use Prim.Native.Nat.{ℕ}
use mathlib.Core.Path.{◌≡◌, refl, sym, ◌∙◌}
use mathlib.Core.List.{List}
use lib.ListN.{length}
use contract.Lifetimes.{Lfts}
use denote.Triple.Entry.{Args, Res}
use denote.Triple.Clauses.{AtExit}
use Rattle.walks.proofs.Public.{Public, Contract}
use Rattle.sets.specs.Rows.{rows_of}
use Rattle.store.specs.declared.Reply.{Reply}
use Rattle.store.specs.Calls.{answered, sheet_after, told}
use Rattle.server.specs.contracts.alter as alter
use Rattle.server.proofs.altered.Kinds as altered-kinds
use Rattle.server.proofs.altered.Reads as altered

-- what `alter` ensures of its arguments (the sheet, the table, d, the desk, the call, the list), its answer, and what it lent
abbrev pub Alters : (κs : Lfts 3) → Args alter.signature κs → Res alter.signature κs → AtExit alter.ended κs → Type 0
Alters κs (s, (table, (d, (desk, (call, (list, _)))))) r (s', (table', (d', (desk', (call', (list', _)))))) =
    (r ≡ answered d (rows_of table.now) s.now desk call (length list.now))
    × (s'.now ≡ sheet_after d (rows_of table.now) s.now desk call (length list.now))
    × (list'.now ≡ (told d (rows_of table.now) s.now desk call list.now).list)

pub alter_contract : Contract alter.ended (λ M 𝓤 𝓛. alter.clauses 𝓛) Alters
alter_contract = record { is = λ M 𝓤 𝓛 mem run κs a. refl }

-- the answer, the sheet, and every place of the lent list
pub alter_determined : (κs : Lfts 3) (a : Args alter.signature κs) (r r' : Res alter.signature κs) (e e' : AtExit alter.ended κs)
    → Alters κs a r e → Alters κs a r' e' → (r ≡ r') × (e.0.now ≡ e'.0.now) × (e.1.1.1.1.1.0.now ≡ e'.1.1.1.1.1.0.now)
alter_determined κs a r r' e e' p q = (p.0 ∙ sym q.0, p.1 ∙ sym q.1, p.2 ∙ sym q.2)

pub altered_determined : Public 2 altered-kinds.ps altered-kinds.r altered.Asked altered.Post
    (Reply × List ℕ) (λ κs r e. (r, e.1.1.1.1.1.0.now))
altered_determined =
    record { asks_nothing = λ κs a. tt; determined = λ κs a r r' e e' p q i. ((p.0 ∙ sym q.0) i, (p.1 ∙ sym q.1) i) }
