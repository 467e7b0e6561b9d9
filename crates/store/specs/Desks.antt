-- One desk: what it sees, and what it is told, from the table rows that it hides and the rows that it owns (the request, 'The class sheet').
use Rattle.std.specs.Prelude.{ℕ, Bool, not, cond, ◌&&◌, List, [], ◌∷◌, ◌++◌, leb, ltb, length, drop, Result, Ok, Err}
use Rattle.sets.specs.Limits.{most_held, promised, most_in_view}
use Rattle.sets.specs.Sets.{within}
use Rattle.sets.specs.Rows.{bits, as_row}
use Rattle.theory.specs.Pairings.{at}
use Rattle.theory.specs.Kept.{kept}
use Rattle.sheet.specs.Upto.{those}
use Rattle.refusals.specs.declared.Refusal.{Refusal}
use Rattle.store.specs.declared.Target.TheVariants.{Table, Own}
use Rattle.store.specs.declared.Call.{Call}
use Rattle.store.specs.declared.Call.TheVariants.{Do, Ask}
use Rattle.store.specs.declared.Change.{Change}
use Rattle.store.specs.declared.Change.TheVariants.{Delete, Insert, Reset}
use Rattle.store.specs.declared.Question.{Question}
use Rattle.store.specs.declared.Question.TheVariants.{Look, Count, Distinct}
use Rattle.store.specs.Answers.{accepted}
use Rattle.refusals.specs.declared.Refusal.TheVariants.{NoRow, HiddenAlready, BadSet, Full, NoRoom, ShortList, LongView}
use Rattle.store.specs.declared.Answer.{Answer}
use Rattle.store.specs.declared.Answer.TheVariants.{Done, Seen, Counted, Listed}
use Rattle.refusals.specs.Cases.{Case, ◌gives◌, decided}

-- 'A desk's view is the table's rows that it hasn't hidden, in table order, then its own rows in order of insertion.'
unfoldable pub view : List ℕ → (ℕ → Bool) → List ℕ → List ℕ
view table hid own = those (λ i. not (hid i)) table (length table) ++ own

-- ---- refusals 6 to 12, lowest first

-- 6: there is no row n among so many
abbrev pub row_cases : ℕ → ℕ → List Case
row_cases many n = (leb many n gives NoRow) ∷ []

-- 6 and 7: a delete of table row n
abbrev pub hide_cases : ℕ → (ℕ → Bool) → ℕ → List Case
hide_cases rows hid n = (leb rows n gives NoRow) ∷ (hid n gives HiddenAlready) ∷ []

-- 8, 9 and 10: an insert. `full`: used plus owed is 512
abbrev pub insert_cases : ℕ → Bool → ℕ → ℕ → List Case
insert_cases d full held set = (not (within d set) gives BadSet) ∷ (leb most_held held gives Full) ∷ ((leb promised held && full) gives NoRoom) ∷ []

-- 11 and 12: DISTINCT. `places`: those of the lent list
abbrev pub list_cases : ℕ → ℕ → List Case
list_cases places many = (ltb places many gives ShortList) ∷ (ltb most_in_view many gives LongView) ∷ []

-- ---- a question, of the rows that the desk sees, `held` of them its own

abbrev pub question_cases : List ℕ → ℕ → Question → List Case
question_cases rows places (Look n) = row_cases (length rows) n
question_cases rows places Count = []
question_cases rows places Distinct = list_cases places (length rows)

-- 'the set there', 'rows in the view, own rows held', 'the count n'
abbrev pub answer_to : ℕ → List ℕ → ℕ → Question → Answer
answer_to d rows held (Look n) = Seen (as_row (at rows n))
answer_to d rows held Count = Counted (length rows) held
answer_to d rows held Distinct = Listed (length (kept d rows))

-- what stands at the front of the lent list then: 'the first n places of the lent list get the kept positions'
abbrev pub written_for : ℕ → List ℕ → Question → List ℕ
written_for d rows (Look n) = []
written_for d rows Count = []
written_for d rows Distinct = kept d rows

-- ---- a change. `full`: used plus owed is 512

abbrev pub change_cases : ℕ → List ℕ → Bool → (ℕ → Bool) → List ℕ → Change → List Case
change_cases d table full hid own (Delete (Table n)) = hide_cases (length table) hid n
change_cases d table full hid own (Delete (Own n)) = row_cases (length own) n
change_cases d table full hid own (Insert row) = insert_cases d full (length own) (bits row)
change_cases d table full hid own Reset = []

-- ---- one desk's call

module _ (d : ℕ) (table : List ℕ) (full : Bool) (places : ℕ) (hid : ℕ → Bool) (own : List ℕ) where
  abbrev pub call_cases : Call → List Case
  call_cases (Do c) = change_cases d table full hid own c
  call_cases (Ask q) = question_cases (view table hid own) places q

  -- the answer where none applies
  abbrev pub granted : Call → Answer
  granted (Do c) = Done
  granted (Ask q) = answer_to d (view table hid own) (length own) q

  unfoldable pub serve : Call → Result Answer Refusal
  serve c = decided Err (call_cases c) (Ok (granted c))

-- what an accepted call puts at the front of the lent list: a change nothing
unfoldable pub written : ℕ → List ℕ → (ℕ → Bool) → List ℕ → Call → List ℕ
written d table hid own (Do c) = []
written d table hid own (Ask q) = written_for d (view table hid own) q

-- 'later places keep what they had', and a refusal 'writes to no lent memory'
unfoldable pub list_after : List ℕ → Result Answer Refusal → List ℕ → List ℕ
list_after front a list = cond (accepted a) (front ++ drop (length front) list) list

-- 'What a desk is told is the answer and what is written to the lent list'
pub record Told : Type 0 where
  pub answer : Result Answer Refusal
  pub list : List ℕ

-- the call's answer a, and what becomes of its list
abbrev pub telling : ℕ → List ℕ → (ℕ → Bool) → List ℕ → Call → List ℕ → Result Answer Refusal → Told
telling d table hid own c list a = record { answer = a; list = list_after (written d table hid own c) a list }
