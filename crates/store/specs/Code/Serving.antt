-- What the code of a desk's call may trust once refusals 1 to 5 are out, and what it then owes.
use Rattle.std.specs.Prelude.{ℕ, ◌<◌, ◌≤◌, ◌≡◌, true, List, length, Result, Ok, Err}
use Rattle.theory.specs.Pairings.{at}
use Rattle.sheet.specs.declared.Sheet.{Sheet}
use Rattle.sheet.specs.Sheets.{own, held, hides, sound}
use Rattle.refusals.specs.declared.Refusal.{Refusal}
use Rattle.store.specs.declared.Target.TheVariants.{Table, Own}
use Rattle.store.specs.declared.Call.{Call}
use Rattle.store.specs.declared.Call.TheVariants.{Do, Ask}
use Rattle.store.specs.declared.Question.{Question}
use Rattle.store.specs.declared.Change.{Change}
use Rattle.store.specs.declared.Change.TheVariants.{Delete, Insert, Reset}
use Rattle.store.specs.declared.Answer.{Answer}
use Rattle.refusals.specs.Cases.{decided}
use Rattle.store.specs.Answers.{accepted}
use Rattle.store.specs.Desks.{question_cases, answer_to, written_for, change_cases, serve, written, list_after}
use Rattle.sets.specs.Limits.{most_rows, most_desks, most_places, most_held}
use Rattle.refusals.specs.TableCases.{table_cases}
use Rattle.store.specs.Calls.{crowded, answered, sheet_after, told}

-- table, sheet and desk are right, and counts has how many rows each desk holds
pub record Trusted (d : ℕ) (table : List ℕ) (s : Sheet) (counts : List ℕ) (k : ℕ) : Type 0 where
  pub table_right : ◌≡◌ {A = Result (Unit {0}) Refusal} (decided Err (table_cases most_rows d table) (Ok tt)) (Ok tt)
  pub sheet_right : sound s ≡ true
  pub same_d : s.d ≡ d
  pub same_rows : s.rows ≡ length table
  pub desk_there : k < s.desks
  pub counted : (j : ℕ) → j < most_desks → at counts j ≡ held s j

-- whether a change may be made
abbrev pub ChangeJudged : ℕ → List ℕ → Sheet → ℕ → Change → Result (Unit {0}) Refusal → Type 0
ChangeJudged d table s k c r = r ≡ decided Err (change_cases d table (crowded s) (hides s.marks k) (own s k) c) (Ok tt)

-- what a question is answered, and the lent list
pub record Replied (d : ℕ) (rows : List ℕ) (held : ℕ) (q : Question) (old : List ℕ) (r : Result Answer Refusal) (list : List ℕ) : Type 0 where
  pub answer_is : r ≡ decided Err (question_cases rows (length old) q) (Ok (answer_to d rows held q))
  pub list_is : list ≡ list_after (written_for d rows q) r old

-- what a call is answered, and the lent list
pub record Served (d : ℕ) (table : List ℕ) (s : Sheet) (k : ℕ) (c : Call) (old : List ℕ) (r : Result Answer Refusal) (list : List ℕ) : Type 0 where
  pub answer_is : r ≡ serve d table (crowded s) (length old) (hides s.marks k) (own s k) c
  pub list_is : list ≡ list_after (written d table (hides s.marks k) (own s k) c) r old

-- what the sheet has room for
abbrev pub Possible : Sheet → ℕ → Call → Type 0
Possible s k (Do (Delete (Table n))) = (k < most_desks) × (n < most_rows)
Possible s k (Do (Delete (Own n))) = (s.used ≤ most_places) × (n < most_held)
Possible s k (Do (Insert row)) = s.used < most_places
Possible s k (Do Reset) = (s.used ≤ most_places) × (k < most_desks)
Possible s k (Ask q) = Unit {0}

-- what is answered on any sheet, and that an accepted call has room
pub record Responded (d : ℕ) (table : List ℕ) (s : Sheet) (k : ℕ) (c : Call) (old : List ℕ) (r : Result Answer Refusal) (list : List ℕ) : Type 0 where
  pub answer_is : r ≡ answered d table s k c (length old)
  pub list_is : list ≡ (told d table s k c old).list
  pub room : accepted r ≡ true → Possible s k c

-- what comes of a call: the answer, the sheet and the list
pub record CarriedOut (d : ℕ) (table : List ℕ) (s : Sheet) (k : ℕ) (c : Call) (old : List ℕ)
    (r : Result Answer Refusal) (after : Sheet) (list : List ℕ) : Type 0 where
  pub answer_is : r ≡ answered d table s k c (length old)
  pub sheet_is : after ≡ sheet_after d table s k c (length old)
  pub list_is : list ≡ (told d table s k c old).list
