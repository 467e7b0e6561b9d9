-- What is answered of a lesson file, and what reading it leaves (the request, 'Lesson files').
use Rattle.std.specs.Prelude.{ℕ, zero, ◌*◌, List, ◌++◌, drop, Result, Ok, Err}
use Rattle.sets.specs.Rows.{row_words, in_words}
use Rattle.refusals.specs.Cases.{decided}
use Rattle.refusals.specs.declared.Refusal.{Refusal}
use Rattle.files.specs.Files.{values_in, count_in, cells_in}
use Rattle.files.specs.FileCases.{file_cases, read_cases}

-- ---- an answer by the request's numbers (`number_of` and `row_of` stand in `refusals`)

-- 'A refusal returns its number, a row number (0 except for 26) and 0 for d and T'; a file that is read is answered by its d and T
abbrev pub values_of : Result (ℕ × ℕ) Refusal → ℕ
values_of (Ok (d, t)) = d
values_of (Err r) = zero

abbrev pub count_of : Result (ℕ × ℕ) Refusal → ℕ
count_of (Ok (d, t)) = t
count_of (Err r) = zero

-- ---- what is answered

-- of the file alone, as a reader knows no list
unfoldable pub judged : List ℕ → Result (ℕ × ℕ) Refusal
judged file = decided Err (file_cases file) (Ok (values_in file, count_in file))

-- with a list of so many places lent
unfoldable pub read_answer : List ℕ → ℕ → Result (ℕ × ℕ) Refusal
read_answer file places = decided Err (read_cases file places) (Ok (values_in file, count_in file))

-- 'the first T places hold the rows and the rest keep what they had'; a refusal 'writes nothing'
abbrev pub filled : List ℕ → List ℕ → Result (ℕ × ℕ) Refusal → List ℕ
filled file words (Ok (d, t)) = in_words (cells_in file) ++ drop (t * row_words) words
filled file words (Err r) = words
