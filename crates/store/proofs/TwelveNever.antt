-- Refusal 12 is never given, on any sheet: where refusals 1 to 5 aren't, a view has at most 256 table rows and 64 own ones. Assumes nothing.
use Prim.Native.Nat.{ℕ, zero, ◌+◌, ◌≤◌}
use mathlib.Core.Logic.{◌≢◌}
use mathlib.Core.Bool.{Bool, not, ◌&&◌, ◌||◌}
use mathlib.Core.List.{List, [], ◌∷◌}
use native.Mathlib.Omega.{arith}
use lib.Dec.{eqb, leb, ltb}
use lib.ListN.{length, length-append}
use borrow.Author.Tests.{ltb-true, ltb-false, leb-false, not-false}
use Rattle.sets.specs.Rows.{bits, as_row}
use Rattle.sets.specs.Limits.{most_held, most_in_view, most_rows, most_values, promised}
use Rattle.theory.specs.Pairings.{at}
use Rattle.theory.specs.Kept.{kept}
use Rattle.std.specs.Prelude.{Option, Some, None, Result, Ok}
use Rattle.sets.specs.Sets.{within}
use Rattle.sets.specs.Tables.{bad_row}
use Rattle.sheet.specs.declared.Sheet.{Sheet}
use Rattle.sheet.specs.Upto.{those}
use Rattle.sheet.specs.Sheets.{own, hides, sound}
use Rattle.sheet.proofs.UptoLaws.{count-le, length-those}
use Rattle.sheet.proofs.OwnAfter.{length-own}
use Rattle.sheet.proofs.SoundParts.{sound_parts}
use Rattle.refusals.specs.declared.Refusal.{Refusal}
use Rattle.store.specs.declared.Target.TheVariants.{Table, Own}
use Rattle.store.specs.declared.Call.{Call}
use Rattle.store.specs.declared.Call.TheVariants.{Do, Ask}
use Rattle.store.specs.declared.Change.TheVariants.{Delete, Insert, Reset}
use Rattle.store.specs.declared.Question.TheVariants.{Look, Count, Distinct}
use Rattle.refusals.specs.declared.Refusal.TheVariants.{TooLarge, Unsound, OtherTable, NoDesk}
use Rattle.refusals.specs.declared.Refusal.TheVariants.{NoRow, HiddenAlready, BadSet, Full, NoRoom, ShortList, LongView}
use Rattle.store.specs.declared.Answer.{Answer}
use Rattle.store.specs.declared.Answer.TheVariants.{Done, Seen, Listed}
use Rattle.refusals.specs.Refusals.{number}
use Rattle.refusals.specs.Cases.{Case, ◌gives◌, decided}
use Rattle.refusals.specs.Refusals.{number_of}
use Rattle.store.specs.Desks.{view, serve}
use Rattle.refusals.specs.TableCases.{bad_case, table_cases}
use Rattle.refusals.proofs.TablesJudged.{or_no}
use Rattle.store.specs.Calls.{sheet_cases, crowded, answered}
use Rattle.store.specs.Promise.{Turn, class_store, sheet_on}
use Rattle.store.proofs.Judging.{skipped, applied}

view-most : (table : List ℕ) (hid : ℕ → Bool) (own : List ℕ) → length (view table hid own) ≤ length table + length own
unfolding view
view-most table hid own =
    let f : ℕ → Bool = λ i. not (hid i) in
    omega (arith, length-append (those f table (length table)) own, length-those f table (length table), count-le f (length table))

module _ (d : ℕ) (table : List ℕ) (full : Bool) (places : ℕ) (hid : ℕ → Bool) (own : List ℕ) (small : length table ≤ most_rows)
    (few : length own ≤ most_held) where
  not_served : (c : Call) → number_of (serve d table full places hid own c) ≢ 12
  unfolding serve decided
  not_served (Do (Delete (Table n))) e =
      let one = skipped 12 (leb (length table) n) NoRow ((hid n gives HiddenAlready) ∷ []) (Ok Done) (omega arith) e in
      omega (arith, (skipped 12 (hid n) HiddenAlready [] (Ok Done) (omega arith) one.1).1)
  not_served (Do (Delete (Own n))) e = omega (arith, (skipped 12 (leb (length own) n) NoRow [] (Ok Done) (omega arith) e).1)
  not_served (Do (Insert row)) e =
      let room : List Case = ((leb promised (length own) && full) gives NoRoom) ∷ [] in
      let one = skipped 12 (not (within d (bits row))) BadSet ((leb most_held (length own) gives Full) ∷ room) (Ok Done) (omega arith) e in
      let two = skipped 12 (leb most_held (length own)) Full room (Ok Done) (omega arith) one.1 in
      omega (arith, (skipped 12 (leb promised (length own) && full) NoRoom [] (Ok Done) (omega arith) two.1).1)
  not_served (Do Reset) e = omega arith
  not_served (Ask (Look n)) e =
      omega (arith, (skipped 12 (leb (length (view table hid own)) n) NoRow [] (Ok (Seen (as_row (at (view table hid own) n)))) (omega arith) e).1)
  not_served (Ask Count) e = omega arith
  not_served (Ask Distinct) e =
      let rows = length (view table hid own) in
      let a : Result Answer Refusal = Ok (Listed (length (kept d (view table hid own)))) in
      let short = skipped 12 (ltb places rows) ShortList ((ltb most_in_view rows gives LongView) ∷ []) a (omega arith) e in
      omega (arith, ltb-true most_in_view rows (applied 12 (ltb most_in_view rows) LongView a (omega arith) short.1), view-most table hid own)

not_bad : (f : Option ℕ) → number (bad_case f).refusal ≢ 12
not_bad None = omega arith
not_bad (Some i) = omega arith

-- on any sheet, whoever handed it
pub never_twelve : (d : ℕ) (table : List ℕ) (s : Sheet) (k : ℕ) (c : Call) (places : ℕ) → number_of (answered d table s k c places) ≢ 12
unfolding answered table_cases sheet_cases decided
never_twelve d table s k c places e =
    let a = serve d table (crowded s) places (hides s.marks k) (own s k) c in
    let desk : List Case = (leb s.desks k gives NoDesk) ∷ [] in
    let other : Bool = not (eqb s.d d && eqb s.rows (length table)) in
    let sheet : List Case = (not (sound s) gives Unsound) ∷ (other gives OtherTable) ∷ desk in
    let bad = bad_case (bad_row d table) in
    let one = skipped 12 (eqb d zero || ltb most_values d || ltb most_rows (length table)) TooLarge (bad ∷ sheet) a (omega arith) e in
    let two = skipped 12 bad.applies bad.refusal sheet a (not_bad (bad_row d table)) one.1 in
    let three = skipped 12 (not (sound s)) Unsound ((other gives OtherTable) ∷ desk) a (omega arith) two.1 in
    let four = skipped 12 other OtherTable desk a (omega arith) three.1 in
    let five = skipped 12 (leb s.desks k) NoDesk [] a (omega arith) four.1 in
    let small = ltb-false most_rows (length table) (or_no (eqb d zero || ltb most_values d) (ltb most_rows (length table)) one.0).1 in
    let held = (sound_parts s (not-false (sound s) three.0)).share k (leb-false s.desks k five.0) in
    not_served d table (crowded s) places (hides s.marks k) (own s k) small (omega (arith, length-own s k)) c five.1

-- and so in no run
pub run_never_twelve : (d : ℕ) (table : List ℕ) (desks : ℕ) (past : List Turn) (t : Turn) → number_of (class_store d table desks past t).answer ≢ 12
unfolding class_store
run_never_twelve d table desks past t = never_twelve d table (sheet_on d table desks past) t.desk t.call (length t.list)
