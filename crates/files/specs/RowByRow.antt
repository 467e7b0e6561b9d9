-- The reader, row by row: what stands at a cursor, and where the cursor goes (the request: it 'hands out rows in turn, unknown cells already
-- read, and then says that there are no more; over a file with any refusal but 28 it says that at once').
use Rattle.std.specs.Prelude.{ℕ, zero, suc, ◌+◌, cond, List, ltb, Result, Ok, Err, Option, Some, None}
use Rattle.sets.specs.Rows.{as_row}
use Rattle.refusals.specs.declared.Refusal.{Refusal}
use Rattle.sets.specs.declared.Row.{Row}
use Rattle.files.specs.declared.Step.{Step}
use Rattle.files.specs.declared.reader.Reader.{Reader}
use Rattle.files.specs.Files.{cell_in}
use Rattle.files.specs.Reading.{judged}

-- the cursor is the number of the next row; past the last row, and over a refused file, it stays where it is
abbrev pub step_over : List ℕ → Result (ℕ × ℕ) Refusal → ℕ → Step
step_over file (Ok (d, t)) at = cond (ltb at t) (record { row = Some (as_row (cell_in file at)); next = at + 1 }) (record { row = None; next = at })
step_over file (Err f) at = record { row = None; next = at }

unfoldable pub step_at : List ℕ → ℕ → Step
step_at file at = step_over file (judged file) at

-- the cursor of a fresh reader after n steps, and what step n hands out
unfoldable pub cursor : List ℕ → ℕ → ℕ
cursor file zero = zero
cursor file (suc n) = (step_at file (cursor file n)).next

abbrev pub handed_out : List ℕ → ℕ → Option Row
handed_out file n = (step_at file (cursor file n)).row

-- the same reader, a step further
abbrev pub moved : Reader → Reader
moved r = record { file = r.file; at = (step_at r.file.now r.at).next }
