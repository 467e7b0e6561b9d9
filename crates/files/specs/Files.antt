-- What a lesson file says (the request, 'Lesson files', and wish 3, 'Unknown means the whole column').
use Rattle.std.specs.Prelude.{ℕ, zero, ◌+◌, ◌*◌, cond, List, eqb}
use Rattle.sets.specs.Sets.{all}
use Rattle.files.specs.Bytes.{big}
use Rattle.files.specs.Rows.{list_to}

module _ (file : List ℕ) where
  -- 'Bytes 0 to 2 are the mark "PVT" (50 56 54), 3 and 4 the version 1, 5 is d, 6 and 7 the row count T.'
  abbrev pub mark_in : ℕ
  mark_in = big file 0 3

  abbrev pub version_in : ℕ
  version_in = big file 3 2

  abbrev pub values_in : ℕ
  values_in = big file 5 1

  abbrev pub count_in : ℕ
  count_in = big file 6 2

  -- 'T rows of 8 bytes follow.'
  abbrev pub row_in : ℕ → ℕ
  row_in i = big file (8 + 8 * i) 8

  -- 'A row of eight zero bytes stands for an unknown cell', and wish 3: 'Read the zero row as all d values.' (The paper, after Definition 2.1: an
  -- applicable null is a partial value that has the whole domain.)
  unfoldable pub cell_in : ℕ → ℕ
  cell_in i = cond (eqb (row_in i) zero) (all values_in) (row_in i)

  abbrev pub cells_in : List ℕ
  cells_in = list_to cell_in count_in
