-- What was read of a file is a table that every call accepts: its rows are within d, unknown cells too. Assumes nothing.
use Prim.Native.Nat.{ℕ, ◌*◌, ◌≤◌, ◌<◌}
use mathlib.Core.Path.{◌≡◌, sym, ap, ◌∙◌}
use mathlib.Core.Bool.{true, not}
use mathlib.Core.List.{List, ◌++◌}
use native.Mathlib.Omega.{arith}
use lib.ListN.{length, take, drop}
use lib.Seq.{take_at}
use borrow.Author.Tests.{not-false}
use Rattle.std.specs.Prelude.{Ok}
use Rattle.sets.specs.Limits.{most_rows}
use Rattle.sets.specs.Sets.{below, within}
use Rattle.sets.specs.Rows.{row_words, rows_of, in_words}
use Rattle.sets.proofs.BadRows.{AllWithin, none_bad}
use Rattle.sets.proofs.LentRows.{rows_append, words-length, rows_words}
use Rattle.refusals.proofs.TablesJudged.{TableRight, parts_right}
use Rattle.files.specs.Files.{values_in, count_in, row_in, cell_in, cells_in}
use Rattle.files.specs.Reading.{judged, filled}
use Rattle.files.specs.Writing.{write_answer}
use Rattle.files.proofs.RowLaws.{length_list, list_at, none_passes}
use Rattle.files.proofs.CellLaws.{cell_within}
use Rattle.files.proofs.FilesJudged.{HeaderRight}
use Rattle.files.proofs.ReadFiles.{Readable, readable}
use Rattle.files.proofs.TablesSaved.{saved}
use Rattle.files.proofs.ReadBack.{right_narrow}

module _ (file : List ℕ) (d t : ℕ) (read : judged file ≡ Ok (d, t)) where
  facts : Readable file d t
  facts = readable file d t read

  header_right : HeaderRight file
  header_right = facts.right.front

  pub rows_count : length (cells_in file) ≡ t
  rows_count = length_list (cell_in file) (count_in file) ∙ sym facts.count

  row_below : (i : ℕ) → i < t → below d (row_in file i) ≡ true
  row_below i h =
      let over = facts.right.none_over in
      let low = none_passes (λ j. not (below (values_in file) (row_in file j))) (count_in file) over i (omega (arith, h, facts.count)) in
      ap (λ (n : ℕ). below n (row_in file i)) facts.values ∙ not-false (below (values_in file) (row_in file i)) low

  all-within : AllWithin d (cells_in file)
  all-within i h =
      let here : i < t = omega (arith, h, rows_count) in
      let some : 1 ≤ d = omega (arith, header_right.some_value, facts.values) in
      ap (within d) (list_at (cell_in file) (count_in file) i (omega (arith, here, facts.count)))
      ∙ cell_within file i d facts.values some (row_below i here)

  -- 1 and 2 do not apply to it
  pub read_right : TableRight most_rows d (cells_in file)
  read_right = record {
    some_value = omega (arith, header_right.some_value, facts.values);
    values = omega (arith, header_right.values, facts.values);
    small = omega (arith, header_right.few, facts.count, rows_count);
    none_bad = none_bad d (cells_in file) all-within;
  }

  -- the list that it is read into has these rows in front
  pub rows_read : (list : List ℕ) → take t (rows_of (filled file list (Ok (d, t)))) ≡ cells_in file
  rows_read list =
      let rows = cells_in file in
      let rest = drop (t * row_words) list in
      ap (take t) (rows_append (length rows) (in_words rows) rest (words-length rows)
      ∙ ap (λ (l : List ℕ). l ++ rows_of rest) (rows_words rows (right_narrow d rows read_right)))
      ∙ take_at rows (rows_of rest) t rows_count

  -- and saved it takes as many bytes as the file has
  pub read_saved : (room : ℕ) → length file ≤ room → write_answer d (cells_in file) room ≡ Ok (length file)
  read_saved room h =
      saved d (cells_in file) room (parts_right most_rows d (cells_in file) read_right) t (sym rows_count) (omega (arith, h, facts.whole))
      ∙ ap Ok (sym facts.whole)
