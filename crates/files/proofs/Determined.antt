-- `read`, `step_at`, `take`, `write` and the reader's functions are public: their contracts ask nothing, and leave no choice. Assumes nothing.
use Prim.Native.Nat.{ℕ}
use mathlib.Core.Path.{◌≡◌, refl, sym, ap, ◌∙◌}
use mathlib.Core.List.{List}
use contract.Lifetimes.{Lfts}
use denote.Triple.Entry.{Args, Res}
use denote.Triple.Clauses.{AtExit}
use Rattle.std.specs.Prelude.{Result}
use Rattle.walks.proofs.Public.{Public, Contract}
use Rattle.sets.specs.Rows.{rows_of}
use Rattle.refusals.specs.declared.Refusal.{Refusal}
use Rattle.files.specs.declared.Step.{Step}
use Rattle.files.specs.Reading.{filled}
use Rattle.files.specs.RowByRow.{step_at, moved}
use Rattle.files.specs.Writing.{buffer_after}
use Rattle.files.proofs.read.Kinds as read-kinds
use Rattle.files.proofs.read.Reads as read
use Rattle.files.proofs.step_at.Kinds as step-kinds
use Rattle.files.proofs.step_at.Reads as step
use Rattle.files.proofs.write.Kinds as write-kinds
use Rattle.files.proofs.write.Reads as write
use Rattle.files.proofs.reader.take.Kinds as take-kinds
use Rattle.files.proofs.reader.take.Reads as take
use Rattle.files.specs.contracts.reader.Reader.new as new
use Rattle.files.specs.contracts.reader.Reader.next as next

-- d and T or the refusal, and every place of the lent list
pub read_determined : Public 2 read-kinds.ps read-kinds.r read.Asked read.Post (Result (ℕ × ℕ) Refusal × List ℕ) (λ κs r e. (r, e.1.0.now))
read_determined = record {
  asks_nothing = λ κs a. tt;
  determined = λ κs a r r' e e' p q.
      let same = p.0 ∙ sym q.0 in
      let lists = p.1 ∙ ap (filled a.0.now a.1.0.now) same ∙ sym q.1 in
      λ i. (same i, lists i);
}

pub step_determined : Public 1 step-kinds.ps step-kinds.r step.Asked step.Post Step (λ κs r e. r)
step_determined = record { asks_nothing = λ κs a. tt; determined = λ κs a r r' e e' p q. p ∙ sym q }

pub take_determined : Public 1 take-kinds.ps take-kinds.r take.Asked take.Post Step (λ κs r e. r)
take_determined = record { asks_nothing = λ κs a. tt; determined = λ κs a r r' e e' p q. p ∙ sym q }

-- the file's length or the refusal, and every byte of the lent buffer
pub write_determined : Public 2 write-kinds.ps write-kinds.r write.Asked write.Post (Result ℕ Refusal × List ℕ) (λ κs r e. (r, e.1.1.0.now))
write_determined = record {
  asks_nothing = λ κs a. tt;
  determined = λ κs a r r' e e' p q.
      let same = p.0 ∙ sym q.0 in
      let bytes = p.1 ∙ ap (buffer_after a.0 (rows_of a.1.0.now) a.1.1.0.now) same ∙ sym q.1 in
      λ i. (same i, bytes i);
}

-- ---- the reader's functions, by the clauses of their contracts

-- `Reader::new`: a reader of the slice lent, before the first row
abbrev pub Makes : (κs : Lfts 1) → Args new.signature κs → Res new.signature κs → AtExit new.ended κs → Type 0
Makes κs (file, _) r e = (r.file ≡ file) × (r.at ≡ 0)

pub new_contract : Contract new.ended (λ M 𝓤 𝓛. new.clauses 𝓛) Makes
new_contract = record { is = λ M 𝓤 𝓛 mem run κs a. refl }

pub new_determined : (κs : Lfts 1) (a : Args new.signature κs) (r r' : Res new.signature κs) (e e' : AtExit new.ended κs)
    → Makes κs a r e → Makes κs a r' e' → r ≡ r'
new_determined κs a r r' e e' p q = λ i. record { file = (p.0 ∙ sym q.0) i; at = (p.1 ∙ sym q.1) i }

-- `Reader::next`: the row, and the reader a step further
abbrev pub Hands : (κs : Lfts 2) → Args next.signature κs → Res next.signature κs → AtExit next.ended κs → Type 0
Hands κs (r, _) x (r', _) = (x ≡ (step_at r.now.file.now r.now.at).row) × (r'.now ≡ moved r.now)

pub next_contract : Contract next.ended (λ M 𝓤 𝓛. next.clauses 𝓛) Hands
next_contract = record { is = λ M 𝓤 𝓛 mem run κs a. refl }

pub next_determined : (κs : Lfts 2) (a : Args next.signature κs) (x x' : Res next.signature κs) (e e' : AtExit next.ended κs)
    → Hands κs a x e → Hands κs a x' e' → (x ≡ x') × (e.0.now ≡ e'.0.now)
next_determined κs a x x' e e' p q = (p.0 ∙ sym q.0, p.1 ∙ sym q.1)
