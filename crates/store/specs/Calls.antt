-- A call on the class sheet: what is answered, the sheet that is handed back, and the lent list (the request, the table of calls).
use Rattle.std.specs.Prelude.{ℕ, zero, suc, ◌+◌, Bool, cond, not, ◌&&◌, ◌||◌, List, [], ◌∷◌, ◌++◌, eqb, leb, ltb, length, Result, Ok, Err}
use Rattle.sets.specs.Limits.{most_rows, most_desks, most_places}
use Rattle.sets.specs.Rows.{bits}
use Rattle.refusals.specs.TableCases.{table_cases}
use Rattle.sheet.specs.declared.Sheet.{Sheet}
use Rattle.sheet.specs.Sheets.{own, hides, owed, sound}
use Rattle.sheet.specs.Changes.{fresh_sheet, hiding, adding, without, resetting}
use Rattle.refusals.specs.declared.Refusal.{Refusal}
use Rattle.store.specs.declared.Target.TheVariants.{Table, Own}
use Rattle.store.specs.declared.Call.{Call}
use Rattle.store.specs.declared.Call.TheVariants.{Do, Ask}
use Rattle.store.specs.declared.Change.{Change}
use Rattle.store.specs.declared.Change.TheVariants.{Delete, Insert, Reset}
use Rattle.refusals.specs.declared.Refusal.TheVariants.{Unsound, OtherTable, NoDesk, BadDesks}
use Rattle.store.specs.declared.Answer.{Answer}
use Rattle.store.specs.declared.Answer.TheVariants.{Done}
use Rattle.store.specs.declared.Reply.{Reply}
use Rattle.refusals.specs.Cases.{Case, ◌gives◌, decided}
use Rattle.store.specs.Answers.{accepted}
use Rattle.store.specs.Desks.{call_cases, serve, Told, telling}

-- ---- begin

-- 'Begin is refused by 1, 2 and 13 only'
abbrev pub begin_cases : ℕ → List ℕ → ℕ → List Case
begin_cases d table desks = table_cases most_rows d table ++ (((eqb desks zero || ltb most_desks desks) gives BadDesks) ∷ [])

unfoldable pub begun_answer : ℕ → List ℕ → ℕ → Result Answer Refusal
begun_answer d table desks = decided Err (begin_cases d table desks) (Ok Done)

-- 'a fresh sheet for this d and T'; refused, 'it then returns a sheet of zeros, which isn't sound'
unfoldable pub begun_sheet : ℕ → List ℕ → ℕ → Sheet
begun_sheet d table desks = cond (accepted (begun_answer d table desks)) (fresh_sheet d (length table) desks) (fresh_sheet zero zero zero)

abbrev pub begun : ℕ → List ℕ → ℕ → Reply
begun d table desks = record { answer = begun_answer d table desks; sheet = begun_sheet d table desks }

-- ---- desk calls

-- 'used plus owed is 512'
unfoldable pub crowded : Sheet → Bool
crowded s = eqb (s.used + owed s) most_places

-- refusals 4 and 5: of the table and desk of a call, and the d, T and number of desks of the sheet
abbrev pub desk_cases : ℕ → ℕ → ℕ → ℕ → ℕ → ℕ → List Case
desk_cases d rows sd srows desks k = (not (eqb sd d && eqb srows rows) gives OtherTable) ∷ (leb desks k gives NoDesk) ∷ []

-- refusals 3, 4 and 5
unfoldable pub sheet_cases : ℕ → List ℕ → Sheet → ℕ → List Case
sheet_cases d table s k = (not (sound s) gives Unsound) ∷ desk_cases d (length table) s.d s.rows s.desks k

-- what desk k is answered
unfoldable pub answered : ℕ → List ℕ → Sheet → ℕ → Call → ℕ → Result Answer Refusal
answered d table s k c places =
    decided Err (table_cases most_rows d table ++ sheet_cases d table s k) (serve d table (crowded s) places (hides s.marks k) (own s k) c)

-- all cases of a desk's call, in the order of their numbers
abbrev pub all_cases : ℕ → List ℕ → Sheet → ℕ → Call → ℕ → List Case
all_cases d table s k c places =
    table_cases most_rows d table ++ (sheet_cases d table s k ++ call_cases d table (crowded s) places (hides s.marks k) (own s k) c)

-- what an accepted call makes of the sheet; 'Nothing else on the sheet changes'
abbrev pub changed_by : Sheet → ℕ → Change → Sheet
changed_by s k (Delete (Table n)) = hiding s k n
changed_by s k (Delete (Own n)) = without s k n (suc n)
changed_by s k (Insert row) = adding s k (bits row)
changed_by s k Reset = resetting s k

-- 'look, count and distinct hand it back as it came'
unfoldable pub changed : Sheet → ℕ → Call → Sheet
changed s k (Do c) = changed_by s k c
changed s k (Ask q) = s

-- 'A refusal .. hands back the sheet it was handed'
unfoldable pub sheet_after : ℕ → List ℕ → Sheet → ℕ → Call → ℕ → Sheet
sheet_after d table s k c places = cond (accepted (answered d table s k c places)) (changed s k c) s

abbrev pub replied : ℕ → List ℕ → Sheet → ℕ → Call → ℕ → Reply
replied d table s k c places = record { answer = answered d table s k c places; sheet = sheet_after d table s k c places }

-- what desk k is told: the answer, and its list
abbrev pub told : ℕ → List ℕ → Sheet → ℕ → Call → List ℕ → Told
told d table s k c list = telling d table (hides s.marks k) (own s k) c list (answered d table s k c (length list))
