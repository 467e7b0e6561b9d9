-- What is known once no refusal applies: of an accepted begin, and of an accepted call. Assumes nothing.
use Prim.Native.Nat.{ℕ, zero, ◌+◌, ◌≤◌, ◌<◌}
use mathlib.Core.Path.{◌≡◌, refl, sym, ap, ◌∙◌}
use mathlib.Core.Logic.{◌≢◌, ◌⊎◌, inl, inr}
use mathlib.Core.Bool.{Bool, true, false, not, ◌&&◌, false≢true, ◌||◌}
use mathlib.Core.List.{List, [], ◌∷◌}
use native.Mathlib.Omega.{arith}
use lib.Dec.{eqb, leb, ltb}
use lib.ListN.{length}
use borrow.Author.Tests.{ltb-false, leb-false, eqb-false, not-false, le-ltb, ne_eqb}
use Rattle.std.specs.Prelude.{Result, Ok, Err}
use Rattle.sets.specs.Rows.{bits}
use Rattle.sets.specs.Limits.{most_desks, most_held, most_places, most_rows, promised}
use Rattle.sets.specs.Sets.{within}
use Rattle.sets.proofs.Bools.{true_or_false}
use Rattle.sheet.specs.declared.Sheet.{Sheet}
use Rattle.sheet.specs.Sheets.{own, held, owed, sound}
use Rattle.sheet.proofs.OwnAfter.{length-own}
use Rattle.sheet.proofs.SoundParts.{sound_parts}
use Rattle.store.specs.declared.Target.TheVariants.{Table, Own}
use Rattle.store.specs.declared.Call.{Call}
use Rattle.store.specs.declared.Call.TheVariants.{Do, Ask}
use Rattle.store.specs.declared.Change.TheVariants.{Delete, Insert, Reset}
use Rattle.refusals.specs.declared.Refusal.{Refusal}
use Rattle.refusals.specs.declared.Refusal.TheVariants.{NoRow, HiddenAlready, BadSet, Full, NoRoom}
use Rattle.store.specs.declared.Answer.{Answer}
use Rattle.store.specs.declared.Answer.TheVariants.{Done}
use Rattle.refusals.specs.Refusals.{number}
use Rattle.refusals.specs.Cases.{Case, ◌gives◌, decided}
use Rattle.refusals.specs.Refusals.{number_of}
use Rattle.store.specs.Answers.{accepted}
use Rattle.store.specs.Desks.{serve}
use Rattle.refusals.specs.TableCases.{table_cases}
use Rattle.refusals.proofs.Outcomes.{NoneApplies, outcome, stands, refuses}
use Rattle.refusals.proofs.TablesJudged.{TableRight, right_parts, parts_right, or_no}
use Rattle.store.specs.Calls.{begin_cases, begun_answer, crowded}

-- where the answer accepts, the first case does not apply
pub passed : (b : Bool) (r : Refusal) (cs : List Case) (a : Result Answer Refusal) → accepted (decided Err ((b gives r) ∷ cs) a) ≡ true
    → (b ≡ false) × (accepted (decided Err cs a) ≡ true)
unfolding decided accepted
passed true r cs a t = absurd (false≢true t)
passed false r cs a t = (refl, t)

-- one case, and whether it applies
pub given : (b : Bool) (r : Refusal) (a : Result Answer Refusal) → b ≡ true → decided Err ((b gives r) ∷ []) a ≡ Err r
unfolding decided
given b r a e = rw e

pub not_given : (b : Bool) (r : Refusal) (a : Result Answer Refusal) → b ≡ false → decided Err ((b gives r) ∷ []) a ≡ a
unfolding decided
not_given b r a e = rw e

-- where the answer's number is x: a first case of another number does not apply, and the one case does where the answer behind it has another number
pub skipped : (x : ℕ) (b : Bool) (r : Refusal) (cs : List Case) (a : Result Answer Refusal) → number r ≢ x
    → number_of (decided Err ((b gives r) ∷ cs) a) ≡ x
    → (b ≡ false) × (number_of (decided Err cs a) ≡ x)
unfolding decided
skipped x true r cs a ne e = absurd (ne e)
skipped x false r cs a ne e = (refl, e)

pub applied : (x : ℕ) (b : Bool) (r : Refusal) (a : Result Answer Refusal) → number_of a ≢ x
    → number_of (decided Err ((b gives r) ∷ []) a) ≡ x → b ≡ true
unfolding decided
applied x true r a ne e = refl
applied x false r a ne e = absurd (ne e)

-- where the answer accepts, no case applies
pub none_apply : (cs : List Case) (a : Result Answer Refusal) → accepted (decided Err cs a) ≡ true → NoneApplies cs
unfolding accepted
none_apply cs a t = elim (outcome cs) [
  | inl none ↦ none
  | inr (r, g) ↦ absurd (false≢true (ap accepted (sym (refuses Err cs r g a)) ∙ t))
]

-- ---- begin

pub record Good (d : ℕ) (table : List ℕ) (desks : ℕ) : Type 0 where
  pub right : TableRight most_rows d table
  pub some_desk : 1 ≤ desks
  pub few_desks : desks ≤ most_desks

pub good_parts : (d : ℕ) (table : List ℕ) (desks : ℕ) → accepted (begun_answer d table desks) ≡ true → Good d table desks
unfolding begun_answer table_cases
good_parts d table desks t =
    let none = none_apply (begin_cases d table desks) (Ok Done) t in
    let number = or_no (eqb desks zero) (ltb most_desks desks) none.1.1.0 in
    let desks-not : desks ≡ zero → ⊥ = eqb-false desks zero number.0 in
    record
    { right = right_parts most_rows d table (none.0, (none.1.0, tt)); some_desk = omega arith; few_desks = ltb-false most_desks desks number.1 }

pub parts_good : {d : ℕ} {table : List ℕ} {desks : ℕ} → Good d table desks → accepted (begun_answer d table desks) ≡ true
unfolding begun_answer table_cases accepted
parts_good {d} {table} {desks} g =
    let none = parts_right most_rows d table g.right in
    let there : (eqb desks zero || ltb most_desks desks) ≡ false
    = rw (ne_eqb desks zero (λ e. absurd (omega (arith, g.some_desk))), le-ltb most_desks desks g.few_desks) refl in
    ap accepted (stands Err (begin_cases d table desks) (none.0, (none.1.0, (there, tt))) (Ok Done))

-- ---- a call

-- what an accepted call has
abbrev pub Allowed : ℕ → ℕ → Bool → List ℕ → Call → Type 0
Allowed d rows full own (Do (Delete (Table n))) = n < rows
Allowed d rows full own (Do (Delete (Own n))) = n < length own
Allowed d rows full own (Do (Insert row)) = (within d (bits row) ≡ true) × (length own < most_held) × (full ≡ true → length own < promised)
Allowed d rows full own (Do Reset) = Unit {0}
Allowed d rows full own (Ask q) = Unit {0}

and_no : (a b : Bool) → (a && b) ≡ false → b ≡ true → a ≡ false
and_no false b e t = refl
and_no true b e t = absurd (false≢true (sym e ∙ t))

pub allowed : (d : ℕ) (table : List ℕ) (full : Bool) (places : ℕ) (hid : ℕ → Bool) (own : List ℕ) (c : Call)
    → accepted (serve d table full places hid own c) ≡ true
    → Allowed d (length table) full own c
unfolding serve
allowed d table full places hid own (Do (Delete (Table n))) t =
    leb-false (length table) n (passed (leb (length table) n) NoRow ((hid n gives HiddenAlready) ∷ []) (Ok Done) t).0
allowed d table full places hid own (Do (Delete (Own n))) t = leb-false (length own) n (passed (leb (length own) n) NoRow [] (Ok Done) t).0
allowed d table full places hid own (Do (Insert row)) t =
    let room : List Case = ((leb promised (length own) && full) gives NoRoom) ∷ [] in
    let one = passed (not (within d (bits row))) BadSet ((leb most_held (length own) gives Full) ∷ room) (Ok Done) t in
    let two = passed (leb most_held (length own)) Full room (Ok Done) one.1 in
    let three = passed (leb promised (length own) && full) NoRoom [] (Ok Done) two.1 in (
      not-false (within d (bits row)) one.0,
      leb-false most_held (length own) two.0,
      λ e. leb-false promised (length own) (and_no (leb promised (length own)) full three.0 e),
    )
allowed d table full places hid own (Do Reset) t = tt
allowed d table full places hid own (Ask q) t = tt

-- an accepted insert finds a place that is free, or promised to its desk
pub has_room : (s : Sheet) → sound s ≡ true → (k : ℕ) → (crowded s ≡ true → length (own s k) < promised)
    → (held s k < promised) ⊎ (s.used + owed s < most_places)
unfolding crowded
has_room s right k few = elim (true_or_false (crowded s)) [
  | inl e ↦ inl (omega (arith, few e, length-own s k))
  | inr e ↦
      (let ne : s.used + owed s ≡ most_places → ⊥ = eqb-false (s.used + owed s) most_places e in
      inr (omega (arith, (sound_parts s right).promise)))
]
