-- When `begin` and a desk's call are refused, with which number and which row (the request, 'Refusal numbers': 'Given exactly when').
-- Assumes nothing.
use Prim.Native.Nat.{ℕ, zero, ◌<◌}
use mathlib.Core.Path.{◌≡◌, refl, ap, ◌∙◌}
use mathlib.Core.Logic.{◌↔◌, ◌≢◌}
use mathlib.Core.Bool.{Bool, false, ◌||◌}
use mathlib.Core.List.{List, [], ◌∷◌, ◌++◌, append_assoc}
use native.Mathlib.Omega.{arith}
use lib.Dec.{eqb, ltb}
use Rattle.std.specs.Prelude.{Result, Ok, Err}
use Rattle.sets.specs.Limits.{most_rows, most_desks}
use Rattle.sets.proofs.Bools.{not_both}
use Rattle.sets.proofs.BadRows.{LowestBad}
use Rattle.refusals.specs.declared.Refusal.TheVariants.{BadDesks}
use Rattle.refusals.specs.Cases.{Case, ◌gives◌, decided, applies, Given, Rising}
use Rattle.refusals.specs.TableCases.{table_cases}
use Rattle.refusals.proofs.Outcomes.{chained}
use Rattle.refusals.proofs.GivenExactlyWhen.{given_exactly_when}
use Rattle.refusals.proofs.RowsReturned.{table_rising, lowest_bad_row, no_row}
use Rattle.sheet.specs.declared.Sheet.{Sheet}
use Rattle.sheet.specs.Sheets.{own, hides}
use Rattle.refusals.specs.declared.Refusal.{Refusal}
use Rattle.store.specs.declared.Target.TheVariants.{Table, Own}
use Rattle.store.specs.declared.Call.{Call}
use Rattle.store.specs.declared.Call.TheVariants.{Do, Ask}
use Rattle.store.specs.declared.Change.TheVariants.{Delete, Insert, Reset}
use Rattle.store.specs.declared.Question.TheVariants.{Look, Count, Distinct}
use Rattle.store.specs.declared.Answer.{Answer}
use Rattle.store.specs.declared.Answer.TheVariants.{Done}
use Rattle.refusals.specs.Refusals.{number_of, row_of}
use Rattle.store.specs.Desks.{call_cases, granted, serve}
use Rattle.store.specs.Calls.{begin_cases, begun_answer, sheet_cases, crowded, all_cases, answered}

-- ---- begin

module _ (d : ℕ) (table : List ℕ) (desks : ℕ) where
  abbrev desk_number : List Case
  desk_number = ((eqb desks zero || ltb most_desks desks) gives BadDesks) ∷ []

  pub begin_exactly_when : (n : ℕ) → 0 < n → (number_of (begun_answer d table desks) ≡ n) ↔ Given (begin_cases d table desks) n
  unfolding begun_answer
  begin_exactly_when = given_exactly_when Err number_of (λ r. refl) (Ok Done) refl 0 (begin_cases d table desks)
      (table_rising most_rows d table desk_number (omega arith, tt))

  -- with 2 'the lowest such row'
  pub begin_bad_row : number_of (begun_answer d table desks) ≡ 2 → LowestBad d table (row_of (begun_answer d table desks))
  unfolding begun_answer
  begin_bad_row e =
      let given = lowest_bad_row Err number_of (λ r. refl) (Ok Done) most_rows d table desk_number (omega arith, tt) refl e in
      rw (ap row_of given.1) given.2

  -- and 0 with any other number
  never_26 : applies (begin_cases d table desks) 26 ≡ false
  unfolding applies table_cases
  never_26 = refl

  pub begin_no_row : number_of (begun_answer d table desks) ≢ 2 → row_of (begun_answer d table desks) ≡ 0
  unfolding begun_answer
  begin_no_row not-2 = no_row Err number_of (λ r. refl) (Ok Done) row_of (λ r. refl) refl (begin_cases d table desks) not-2
      (λ e. not_both ((begin_exactly_when 26 (omega arith)).0 e).0 never_26)

-- ---- a desk's call

module _ (d : ℕ) (table : List ℕ) (s : Sheet) (k : ℕ) (c : Call) (places : ℕ) where
  abbrev hid : ℕ → Bool
  hid = hides s.marks k

  -- the answer where no case applies
  abbrev grants : Result Answer Refusal
  grants = Ok (granted d table (crowded s) places hid (own s k) c)

  abbrev later_cases : List Case
  later_cases = sheet_cases d table s k ++ call_cases d table (crowded s) places hid (own s k) c

  -- the answer is decided by all cases in one list
  by_cases : answered d table s k c places ≡ decided Err (all_cases d table s k c places) grants
  unfolding answered serve
  by_cases =
      chained Err (table_cases most_rows d table ++ sheet_cases d table s k) (call_cases d table (crowded s) places hid (own s k) c) grants
      ∙ ap (λ (cs : List Case). decided Err cs grants) (append_assoc (table_cases most_rows d table) (sheet_cases d table s k) _)

  accepts : (c : Call)
      → (number_of (Ok (granted d table (crowded s) places hid (own s k) c)) ≡ 0)
      × (row_of (Ok (granted d table (crowded s) places hid (own s k) c)) ≡ 0)
  accepts c = (refl, refl)

  call_rising : (c : Call) → Rising 5 (call_cases d table (crowded s) places hid (own s k) c)
  call_rising (Do (Delete (Table n))) = (omega arith, (omega arith, tt))
  call_rising (Do (Delete (Own n))) = (omega arith, tt)
  call_rising (Do (Insert row)) = (omega arith, (omega arith, (omega arith, tt)))
  call_rising (Do Reset) = tt
  call_rising (Ask (Look n)) = (omega arith, tt)
  call_rising (Ask Count) = tt
  call_rising (Ask Distinct) = (omega arith, (omega arith, tt))

  later_rising : Rising 2 later_cases
  unfolding sheet_cases
  later_rising = (omega arith, (omega arith, (omega arith, call_rising c)))

  pub call_exactly_when : (n : ℕ) → 0 < n → (number_of (answered d table s k c places) ≡ n) ↔ Given (all_cases d table s k c places) n
  call_exactly_when = rw by_cases (given_exactly_when Err number_of (λ r. refl) grants (accepts c).0 0 (all_cases d table s k c places)
      (table_rising most_rows d table later_cases later_rising))

  -- with 2 'the lowest such row'
  pub call_bad_row : number_of (answered d table s k c places) ≡ 2 → LowestBad d table (row_of (answered d table s k c places))
  call_bad_row e =
      let given = lowest_bad_row Err number_of (λ r. refl) grants most_rows d table later_cases later_rising (accepts c).0 (rw by_cases at e) in
      rw (ap row_of (by_cases ∙ given.1)) given.2

  -- and 0 with any other number
  call_never_26 : (c : Call) → applies (call_cases d table (crowded s) places hid (own s k) c) 26 ≡ false
  unfolding applies
  call_never_26 (Do (Delete (Table n))) = refl
  call_never_26 (Do (Delete (Own n))) = refl
  call_never_26 (Do (Insert row)) = refl
  call_never_26 (Do Reset) = refl
  call_never_26 (Ask (Look n)) = refl
  call_never_26 (Ask Count) = refl
  call_never_26 (Ask Distinct) = refl

  all_never_26 : applies (all_cases d table s k c places) 26 ≡ false
  unfolding applies table_cases sheet_cases
  all_never_26 = call_never_26 c

  pub call_no_row : number_of (answered d table s k c places) ≢ 2 → row_of (answered d table s k c places) ≡ 0
  call_no_row not-2 = rw by_cases (no_row Err number_of (λ r. refl) grants row_of (λ r. refl) (accepts c).1 (all_cases d table s k c places)
      (rw by_cases at not-2) (λ e. not_both ((call_exactly_when 26 (omega arith)).0 (rw by_cases e)).0 all_never_26))
