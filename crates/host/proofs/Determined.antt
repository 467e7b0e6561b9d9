-- The functions for hosts are public: their contracts ask nothing, and leave no choice. Assumes nothing.
use Prim.Native.Nat.{ℕ}
use mathlib.Core.Path.{◌≡◌, refl, sym, ◌∙◌}
use mathlib.Core.List.{List}
use lib.ListN.{length}
use contract.Lifetimes.{Lfts}
use denote.Triple.Entry.{Args, Res}
use denote.Triple.Clauses.{AtExit}
use Rattle.sets.specs.Rows.{rows_of}
use Rattle.walks.proofs.Public.{Public, Contract}
use Rattle.host.specs.declared.spoken.Plain.{Plain}
use Rattle.host.specs.declared.spoken.Handed.{Handed}
use Rattle.host.specs.Spoken.{asked_by, handed_by, list_of}
use Rattle.host.proofs.foliokettle_begin.Kinds as begin-kinds
use Rattle.host.proofs.foliokettle_begin.Reads as begin
use Rattle.host.proofs.foliokettle_call.Kinds as call-kinds
use Rattle.host.proofs.foliokettle_call.Reads as call
use Rattle.host.proofs.foliokettle_distinct.Kinds as distinct-kinds
use Rattle.host.proofs.foliokettle_distinct.Reads as distinct
use Rattle.host.proofs.lessons.foliokettle_read.Kinds as read-kinds
use Rattle.host.proofs.lessons.foliokettle_read.Reads as read
use Rattle.host.proofs.lessons.foliokettle_write.Kinds as write-kinds
use Rattle.host.proofs.lessons.foliokettle_write.Reads as write
use Rattle.host.specs.contracts.foliokettle_alter as alter

pub host_begin_determined : Public 1 begin-kinds.ps begin-kinds.r begin.Asked begin.Post Handed (λ κs r e. r)
host_begin_determined = record { asks_nothing = λ κs a. tt; determined = λ κs a r r' e e' p q. p ∙ sym q }

-- what is told, the sheet, and every place of the lent list
pub host_call_determined : Public 2 call-kinds.ps call-kinds.r call.Asked call.Post
    (Handed × List ℕ) (λ κs r e. (r, e.1.1.1.1.1.1.0.now))
host_call_determined =
    record { asks_nothing = λ κs a. tt; determined = λ κs a r r' e e' p q i. ((p.0 ∙ sym q.0) i, (p.1 ∙ sym q.1) i) }

pub host_distinct_determined : Public 2 distinct-kinds.ps distinct-kinds.r distinct.Asked distinct.Post
    (Plain × List ℕ) (λ κs r e. (r, e.1.1.0.now))
host_distinct_determined =
    record { asks_nothing = λ κs a. tt; determined = λ κs a r r' e e' p q i. ((p.0 ∙ sym q.0) i, (p.1 ∙ sym q.1) i) }

pub host_read_determined : Public 2 read-kinds.ps read-kinds.r read.Asked read.Post (Plain × List ℕ) (λ κs r e. (r, e.1.0.now))
host_read_determined =
    record { asks_nothing = λ κs a. tt; determined = λ κs a r r' e e' p q i. ((p.0 ∙ sym q.0) i, (p.1 ∙ sym q.1) i) }

pub host_write_determined : Public 2 write-kinds.ps write-kinds.r write.Asked write.Post (Plain × List ℕ) (λ κs r e. (r, e.1.1.0.now))
host_write_determined =
    record { asks_nothing = λ κs a. tt; determined = λ κs a r r' e e' p q i. ((p.0 ∙ sym q.0) i, (p.1 ∙ sym q.1) i) }

-- what the entry in place ensures of its arguments (the sheet, the table, d, the desk, the kind, its argument, the list),
-- what it tells, and what it lent
abbrev pub Alters : (κs : Lfts 3) → Args alter.signature κs → Res alter.signature κs → AtExit alter.ended κs → Type 0
Alters κs (s, (table, (d, (desk, (kind, (n, (list, _))))))) r (s', (table', (d', (desk', (kind', (n', (list', _))))))) =
    (r ≡ (handed_by (asked_by kind n) d (rows_of table.now) s.now desk (length list.now)).told)
    × (s'.now ≡ (handed_by (asked_by kind n) d (rows_of table.now) s.now desk (length list.now)).sheet)
    × (list'.now ≡ list_of (asked_by kind n) d (rows_of table.now) s.now desk list.now)

pub host_alter_contract : Contract alter.ended (λ M 𝓤 𝓛. alter.clauses 𝓛) Alters
host_alter_contract = record { is = λ M 𝓤 𝓛 mem run κs a. refl }

pub host_alter_determined : (κs : Lfts 3) (a : Args alter.signature κs) (r r' : Res alter.signature κs) (e e' : AtExit alter.ended κs)
    → Alters κs a r e → Alters κs a r' e' → (r ≡ r') × (e.0.now ≡ e'.0.now) × (e.1.1.1.1.1.1.0.now ≡ e'.1.1.1.1.1.1.0.now)
host_alter_determined κs a r r' e e' p q = (p.0 ∙ sym q.0, p.1 ∙ sym q.1, p.2 ∙ sym q.2)
