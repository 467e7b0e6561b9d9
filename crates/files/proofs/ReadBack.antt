-- Reading what was written: a table that is saved is read back as itself, at once and row by row, from the bytes written. Assumes nothing.
use Prim.Native.Nat.{ℕ, zero, ◌+◌, ◌*◌, ◌^◌, ◌≤◌, ◌<◌}
use mathlib.Core.Path.{◌≡◌, refl, sym, ap, ap₂, ◌∙◌, subst}
use mathlib.Core.Logic.{◌≢◌}
use mathlib.Core.Bool.{Bool, not, cond}
use mathlib.Core.List.{List, ◌++◌}
use native.Mathlib.Nat.{le_trans}
use native.Mathlib.Omega.{arith}
use lib.Dec.{eqb}
use lib.ListN.{length, get_or, take, drop, get_or-append}
use lib.Pow.{pow_mono}
use lib.Seq.{ext_get_or, take_at}
use borrow.Author.Tests.{eqb-false, not-true, le-ltb}
use Rattle.std.specs.Prelude.{None, Ok, Err, Some}
use Rattle.sets.specs.Limits.{most_rows}
use Rattle.sets.specs.Sets.{below, within}
use Rattle.sets.specs.Rows.{row_words, width, rows_of, in_words, as_row}
use Rattle.sets.proofs.Bools.{and_left, and_right}
use Rattle.sets.proofs.ValuesBelow.{within_less}
use Rattle.sets.proofs.BadRows.{AllWithin, bad_row-none}
use Rattle.sets.proofs.LentRows.{rows_append, rows_drop, words-length, Narrow, narrow_each, rows_words}
use Rattle.refusals.specs.declared.Refusal.TheVariants.{FewPlaces}
use Rattle.refusals.proofs.Outcomes.{stands}
use Rattle.refusals.proofs.TablesJudged.{TableRight}
use Rattle.files.specs.Bytes.{big, in_bytes}
use Rattle.files.specs.Files.{mark_in, version_in, values_in, count_in, row_in, cell_in, cells_in}
use Rattle.files.specs.FileCases.{row_over, file_cases}
use Rattle.files.specs.Reading.{judged, read_answer, filled}
use Rattle.files.specs.RowByRow.{handed_out}
use Rattle.files.specs.Writing.{header, row_bytes, file_of, write_answer, buffer_after}
use Rattle.files.proofs.ByteLaws.{cap, big_again}
use Rattle.files.proofs.TableBytes.{file_length, row_part}
use Rattle.files.proofs.RowLaws.{length_list, list_at, lowest_none}
use Rattle.files.proofs.CellLaws.{known_cell}
use Rattle.files.proofs.FilesJudged.{FileRight, right_none}
use Rattle.files.proofs.ReadFiles.{then_places}
use Rattle.files.proofs.TablesSaved.{saved_right}
use Rattle.files.proofs.ReaderTurns.{rows_in_turn, then_no_more}

-- the file is read as d and exactly these rows, at once and row by row
pub record ReadAs (d : ℕ) (table file : List ℕ) : Type 0 where
  pub answers : (places : ℕ) → length table ≤ places → read_answer file places ≡ Ok (d, length table)
  pub fills : (list : List ℕ) → length table ≤ length (rows_of list)
      → rows_of (filled file list (Ok (d, length table))) ≡ table ++ drop (length table) (rows_of list)
  pub hands_out : (i : ℕ) → i < length table → handed_out file i ≡ Some (as_row (get_or table i 0))
  pub then_none : (k : ℕ) → handed_out file (k + length table) ≡ None

-- ---- the rows of a table that is right

module _ (d : ℕ) (table : List ℕ) (right : TableRight most_rows d table) where
  all-within : AllWithin d table
  all-within = bad_row-none d table right.none_bad

  row_less : (i : ℕ) → i < length table → get_or table i 0 < 2 ^ width
  row_less i h = le_trans (within_less d (get_or table i 0) (all-within i h)) (pow_mono right.values)

  pub right_narrow : Narrow table
  right_narrow = narrow_each table row_less

  -- ---- its file

  abbrev file : List ℕ
  file = file_of d table

  abbrev t : ℕ
  t = length table

  -- ---- what it says

  mark : mark_in file ≡ 0x505654
  unfolding file_of header in_bytes big
  mark = refl

  version : version_in file ≡ 1
  unfolding file_of header in_bytes big
  version = refl

  values : values_in file ≡ d
  unfolding file_of header in_bytes cap
  values = big_again 1 d (in_bytes 3 0x505654 ++ in_bytes 2 1) (in_bytes 2 t ++ row_bytes table) (omega (arith, right.values))

  count : count_in file ≡ t
  unfolding file_of header in_bytes cap
  count = big_again 2 t (in_bytes 3 0x505654 ++ in_bytes 2 1 ++ in_bytes 1 d) (row_bytes table) (omega (arith, right.small))

  row : (i : ℕ) → i < t → row_in file i ≡ get_or table i 0
  unfolding cap
  row i h =
      let part = row_part d table i h in
      ap₂ (λ (l : List ℕ) (k : ℕ). big l k 8) part.parts (sym part.long)
      ∙ big_again 8 (get_or table i 0) part.before part.behind (row_less i h)

  row-not : (i : ℕ) → i < t → row_in file i ≢ zero
  unfolding within
  row-not i h e =
      let r = get_or table i 0 in
      eqb-false r zero (not-true (eqb r zero) (and_left (not (eqb r zero)) (below d r) (all-within i h))) (sym (row i h) ∙ e)

  -- a row is never zero, so each cell is its row
  cells : cells_in file ≡ table
  cells =
      let long : length (cells_in file) ≡ t = length_list (cell_in file) (count_in file) ∙ count in
      ext_get_or zero (cells_in file) table long (λ i h.
      let here : i < t = omega (arith, h, long) in
      list_at (cell_in file) (count_in file) i (omega (arith, here, count))
      ∙ known_cell file i (row-not i here) ∙ row i here)

  -- ---- it is read

  none_over : row_over file ≡ None
  unfolding within
  none_over = lowest_none (λ i. not (below (values_in file) (row_in file i))) (count_in file) (λ i h.
      let here : i < t = omega (arith, h, count) in
      let r = get_or table i 0 in
      ap not ((λ j. below (values j) (row i here j)) ∙ and_right (not (eqb r zero)) (below d r) (all-within i here)))

  facts : FileRight file
  facts =
      let long = file_length d table in
      let some : values_in file ≢ zero = λ e. omega (arith, e, values, right.some_value) in
      record {
        front = record {
          header = omega (arith, long);
          mark = mark;
          version = version;
          some_value = some;
          values = omega (arith, values, right.values);
          few = omega (arith, count, right.small);
        };
        whole = omega (arith, long, count);
        none_over = none_over;
      }

  read : judged file ≡ Ok (d, t)
  unfolding judged
  read = stands Err (file_cases file) (right_none file facts) (Ok (values_in file, count_in file)) ∙ (λ i. Ok (values i, count i))

  -- ---- at once, and row by row

  fills_list : (list : List ℕ) → t ≤ length (rows_of list) → rows_of (filled file list (Ok (d, t))) ≡ table ++ drop t (rows_of list)
  fills_list list h =
      ap (λ (l : List ℕ). rows_of (in_words l ++ drop (t * row_words) list)) cells
      ∙ rows_append t (in_words table) (drop (t * row_words) list) (words-length table)
      ∙ ap₂ (λ (a b : List ℕ). a ++ b) (rows_words table right_narrow) (rows_drop t list h)

  pub read_back : ReadAs d table file
  read_back = record {
    answers = λ places h. then_places file places d t read ∙ ap (λ (b : Bool). cond b (Err FewPlaces) (Ok (d, t))) (le-ltb places t h);
    fills = fills_list;
    hands_out = λ i h.
        let room : t ≤ length (rows_of (in_words table)) = omega (arith, ap length (rows_words table right_narrow)) in
        rows_in_turn file d t read (in_words table) i h
        ∙ ap (λ (l : List ℕ). Some (as_row (get_or l i 0))) (fills_list (in_words table) room)
        ∙ ap (λ (n : ℕ). Some (as_row n)) (get_or-append table (drop t (rows_of (in_words table))) 0 i h);
    then_none = then_no_more file d t read;
  }

-- ---- a table that is saved

module _ (d : ℕ) (table buffer : List ℕ) (n : ℕ) (saved : write_answer d table (length buffer) ≡ Ok n) where
  right : TableRight most_rows d table
  right = (saved_right d table (length buffer) n saved).0

  written : take n (buffer_after d table buffer (Ok n)) ≡ file_of d table
  written = take_at (file_of d table) (drop n buffer) n (file_length d table ∙ sym (saved_right d table (length buffer) n saved).1)

  pub reading_what_was_written : ReadAs d table (take n (buffer_after d table buffer (Ok n)))
  reading_what_was_written = subst (ReadAs d table) (sym written) (read_back d table right)
