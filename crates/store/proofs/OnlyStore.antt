-- Any two stores that meet demand 3 tell the same. Assumes nothing.
use Prim.Native.Nat.{ℕ, ◌-◌}
use mathlib.Core.Path.{◌≡◌, refl, sym, ap, ap₂, ◌∙◌}
use mathlib.Core.Bool.{cond, ◌&&◌}
use mathlib.Core.List.{List, [], ◌∷◌}
use native.Mathlib.Decide.{ℕ_discrete}
use native.Mathlib.Omega.{arith}
use lib.Dec.{eqb}
use lib.ListN.{length}
use Rattle.std.specs.Prelude.{Err}
use Rattle.sets.specs.Limits.{promised}
use Rattle.sheet.proofs.UptoLaws.{sum_ext}
use Rattle.store.specs.declared.Call.{Call}
use Rattle.refusals.specs.declared.Refusal.TheVariants.{NoRoom}
use Rattle.refusals.specs.Refusals.{number_of}
use Rattle.store.specs.Answers.{accepted}
use Rattle.store.specs.Desks.{Told}
use Rattle.store.specs.Promise.{Turn, Store, own_in, alone, history, held_by, used_by, owed_by, Demand3}
use Rattle.store.proofs.Told.{ten_is}

-- refusal 10 as it is told
told_ten : {d : ℕ} {table : List ℕ} {desks : ℕ} {tell : Store} → Demand3 d table desks tell → (past : List Turn) (t : Turn)
    → number_of (tell past t).answer ≡ 10 → tell past t ≡ record { answer = Err NoRoom; list = t.list }
told_ten {tell = tell} keeps past t e = λ i. record { answer = ten_is (tell past t).answer e i; list = keeps.no_room_list past t e i }

-- after like histories, desks hold as many rows, and as many places are used and owed
module _ (tell tell' : Store) (past : List Turn) (same : (k : ℕ) → history tell k past ≡ history tell' k past) where
  held_alike : (k : ℕ) → held_by tell k past ≡ held_by tell' k past
  held_alike k = ap (λ (h : List Call). length (own_in h)) (same k)

  pub used_alike : (desks : ℕ) → used_by tell desks past ≡ used_by tell' desks past
  used_alike desks = sum_ext (λ k. held_by tell k past) (λ k. held_by tell' k past) desks (λ k h. held_alike k)

  pub owed_alike : (desks : ℕ) → owed_by tell desks past ≡ owed_by tell' desks past
  owed_alike desks =
      sum_ext (λ k. promised - held_by tell k past) (λ k. promised - held_by tell' k past) desks
      (λ k h. ap (λ (x : ℕ). promised - x) (held_alike k))

-- and refusal 10 is given alike
ten_alike : {d : ℕ} {table : List ℕ} {desks : ℕ} {tell tell' : Store} → Demand3 d table desks tell → Demand3 d table desks tell' → (past : List Turn)
    → ((k : ℕ) → history tell k past ≡ history tell' k past) → (t : Turn) → number_of (tell past t).answer ≡ 10 → number_of (tell' past t).answer ≡ 10
ten_alike {desks = desks} {tell} {tell'} keeps keeps' past same t e =
    let g = (keeps.no_room past t).0 e in
    let held = held_alike tell tell' past same t.desk in
    let used = used_alike tell tell' past same desks in
    let owed = owed_alike tell tell' past same desks in
    (keeps'.no_room past t).1 (g.0, omega (arith, g.1), omega (arith, g.2), omega (arith, g.3))

module _ {d : ℕ} {table : List ℕ} {desks : ℕ} {tell tell' : Store} (keeps : Demand3 d table desks tell) (keeps' : Demand3 d table desks tell') where
  told_alike : (past : List Turn) → ((k : ℕ) → history tell k past ≡ history tell' k past) → (t : Turn) → tell past t ≡ tell' past t
  told_alike past same t = elim (ℕ_discrete (number_of (tell past t).answer) 10) [
    | yes e ↦ told_ten keeps past t e ∙ sym (told_ten keeps' past t (ten_alike keeps keeps' past same t e))
    | no ne ↦
        keeps.as_alone past t ne
        ∙ ap (λ (h : List Call). alone d table desks h t) (same t.desk)
        ∙ sym (keeps'.as_alone past t (λ e. ne (ten_alike keeps' keeps past (λ k. sym (same k)) t e)))
  ]

  pub same_history : (past : List Turn) (k : ℕ) → history tell k past ≡ history tell' k past
  unfolding history
  same_history [] k = refl
  same_history (t ∷ past) k =
      ap₂ (λ (a : Told) (h : List Call). cond (eqb t.desk k && accepted a.answer) (t.call ∷ h) h)
      (told_alike past (same_history past) t) (same_history past k)

  pub unique : (past : List Turn) (t : Turn) → tell past t ≡ tell' past t
  unique past t = told_alike past (same_history past) t
