-- What is written of a table, and what is answered (wish 1, 'Teachers want to save a table').
use Rattle.std.specs.Prelude.{ℕ, ◌+◌, ◌*◌, List, [], ◌∷◌, ◌++◌, ltb, length, drop, Result, Ok, Err}
use Rattle.sets.specs.Limits.{most_rows}
use Rattle.refusals.specs.declared.Refusal.TheVariants.{ShortBuffer}
use Rattle.refusals.specs.Cases.{Case, ◌gives◌, decided}
use Rattle.refusals.specs.TableCases.{table_cases}
use Rattle.refusals.specs.declared.Refusal.{Refusal}
use Rattle.files.specs.Bytes.{in_bytes}

-- ---- 'a table goes out as a version 1 file' (the request, 'Lesson files')

-- 'Bytes 0 to 2 are the mark "PVT" (50 56 54), 3 and 4 the version 1, 5 is d, 6 and 7 the row count T.'
unfoldable pub header : ℕ → ℕ → List ℕ
header d t = in_bytes 3 0x505654 ++ in_bytes 2 1 ++ in_bytes 1 d ++ in_bytes 2 t

-- 'T rows of 8 bytes follow.'
unfoldable pub row_bytes : List ℕ → List ℕ
row_bytes [] = []
row_bytes (r ∷ rows) = in_bytes 8 r ++ row_bytes rows

unfoldable pub file_of : ℕ → List ℕ → List ℕ
file_of d table = header d (length table) ++ row_bytes table

-- ---- what is answered

-- '30 when the buffer has fewer than 8+8T bytes'
abbrev pub room_cases : List ℕ → ℕ → List Case
room_cases table room = (ltb room (8 + 8 * length table) gives ShortBuffer) ∷ []

-- 'Refusals: 1 and 2 as for a table, then 30'
abbrev pub write_cases : ℕ → List ℕ → ℕ → List Case
write_cases d table room = table_cases most_rows d table ++ room_cases table room

-- 'its length is answered'
unfoldable pub write_answer : ℕ → List ℕ → ℕ → Result ℕ Refusal
write_answer d table room = decided Err (write_cases d table room) (Ok (8 + 8 * length table))

-- 'into a lent buffer, bytes beyond the file unchanged'; a refusal 'writes to no lent memory'
abbrev pub buffer_after : ℕ → List ℕ → List ℕ → Result ℕ Refusal → List ℕ
buffer_after d table buffer (Ok n) = file_of d table ++ drop n buffer
buffer_after d table buffer (Err r) = buffer
