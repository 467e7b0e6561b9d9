-- Writing what was read: an accepted file, read and saved again, is the same file byte by byte, but that all values stand where zeros stood; read
-- again, it gives the same rows. Assumes nothing.
use Prim.Native.Nat.{ℕ, zero, suc, ◌+◌, ◌*◌, ◌≤◌, ◌<◌}
use mathlib.Core.Path.{◌≡◌, sym, ap, ap₂, ◌∙◌, subst}
use mathlib.Core.Logic.{◌≢◌}
use mathlib.Core.List.{List, ◌++◌}
use native.Mathlib.Omega.{arith}
use lib.ListN.{length, get_or, take, drop}
use lib.Seq.{take_all, take_at, take-add}
use Rattle.std.specs.Prelude.{Ok}
use Rattle.sets.specs.Sets.{all}
use Rattle.sets.specs.Rows.{rows_of}
use Rattle.files.specs.Bytes.{big, in_bytes, AreBytes}
use Rattle.files.specs.Files.{count_in, row_in, cell_in, cells_in}
use Rattle.files.specs.Reading.{judged, read_answer, filled}
use Rattle.files.specs.Writing.{header, row_bytes, file_of, write_answer, buffer_after}
use Rattle.files.proofs.ByteLaws.{bytes_length, bytes_again}
use Rattle.files.proofs.CellLaws.{unknown_cell, known_cell}
use Rattle.files.proofs.RowLaws.{list_at}
use Rattle.files.proofs.FilesJudged.{HeaderRight}
use Rattle.files.proofs.ReadFiles.{Readable, readable, read_judged}
use Rattle.files.proofs.TableBytes.{header-length, file_length, row_part, part_taken}
use Rattle.files.proofs.ReadBack.{ReadAs, reading_what_was_written}
use Rattle.files.proofs.TablesRead.{rows_count, rows_read, read_saved}

-- the bytes of row i
abbrev pub row_at : List ℕ → ℕ → List ℕ
row_at file i = take 8 (drop (8 + 8 * i) file)

-- the same file, but that all d values stand where zeros stood
pub record SameButUnknown (d t : ℕ) (file after : List ℕ) : Type 0 where
  pub long : length after ≡ length file
  pub header : take 8 after ≡ take 8 file
  pub known : (i : ℕ) → i < t → row_in file i ≢ 0 → row_at after i ≡ row_at file i
  pub unknown : (i : ℕ) → i < t → row_in file i ≡ 0 → row_at after i ≡ in_bytes 8 (all d)

-- files of t rows are the same where their headers and all their rows are
module _ (t : ℕ) (a b : List ℕ) (headers : take 8 a ≡ take 8 b) (rows : (i : ℕ) → i < t → row_at a i ≡ row_at b i) where
  fronts : (k : ℕ) → k ≤ t → take (8 + 8 * k) a ≡ take (8 + 8 * k) b
  fronts zero h = headers
  fronts (suc k) h =
      let more : 8 + 8 * suc k ≡ 8 + 8 * k + 8 = omega arith in
      rw more (take-add (8 + 8 * k) 8 a ∙ ap₂ (λ (x y : List ℕ). x ++ y) (fronts k (omega arith)) (rows k h) ∙ sym (take-add (8 + 8 * k) 8 b))

  same_files : length a ≡ 8 + 8 * t → length b ≡ 8 + 8 * t → a ≡ b
  same_files p q = sym (take_all (8 + 8 * t) a (omega arith)) ∙ fronts t (omega arith) ∙ take_all (8 + 8 * t) b (omega arith)

module _ (file : List ℕ) (d t : ℕ) (bytes : AreBytes file) (read : judged file ≡ Ok (d, t)) where
  facts : Readable file d t
  facts = readable file d t read

  header_right : HeaderRight file
  header_right = facts.right.front

  part : (from n : ℕ) → from + n ≤ 8 → in_bytes n (big file from n) ≡ take n (drop from file)
  part from n h = bytes_again file from n bytes (omega (arith, facts.whole))

  header_again : header d t ≡ take 8 file
  unfolding header
  header_again =
      (λ i. in_bytes 3 (sym header_right.mark i) ++ in_bytes 2 (sym header_right.version i) ++ in_bytes 1 (facts.values i)
      ++ in_bytes 2 (facts.count i))
      ∙ (λ i. part 0 3 (omega arith) i ++ part 3 2 (omega arith) i ++ part 5 1 (omega arith) i ++ part 6 2 (omega arith) i)
      ∙ sym (take-add 6 2 file ∙ ap (λ (l : List ℕ). l ++ take 2 (drop 6 file))
      (take-add 5 1 file ∙ ap (λ (l : List ℕ). l ++ take 1 (drop 5 file)) (take-add 3 2 file)))

  row_again : (i : ℕ) → i < t → row_at (file_of d (cells_in file)) i ≡ in_bytes 8 (cell_in file i)
  row_again i h =
      let row = get_or (cells_in file) i 0 in
      let part = row_part d (cells_in file) i (omega (arith, h, rows_count file d t read)) in
      ap (λ (n : ℕ). take n (drop (8 + 8 * i) (file_of d (cells_in file)))) (sym (bytes_length 8 row))
      ∙ part_taken (in_bytes 8 row) (8 + 8 * i) _ part
      ∙ ap (in_bytes 8) (list_at (cell_in file) (count_in file) i (omega (arith, h, facts.count)))

  saved_again : SameButUnknown d t file (file_of d (cells_in file))
  unfolding file_of
  saved_again = record {
    long = file_length d (cells_in file) ∙ omega (arith, rows_count file d t read, facts.whole);
    header = take_at (header d (length (cells_in file))) (row_bytes (cells_in file)) 8 (header-length d (length (cells_in file)))
        ∙ ap (header d) (rows_count file d t read) ∙ header_again;
    known = λ i h ne. row_again i h ∙ ap (in_bytes 8) (known_cell file i ne) ∙ bytes_again file (8 + 8 * i) 8 bytes (omega (arith, h, facts.whole));
    unknown = λ i h e. row_again i h ∙ ap (in_bytes 8) (unknown_cell file i e ∙ ap all (sym facts.values));
  }

  pub same_bytes : ((i : ℕ) → i < t → row_in file i ≢ 0) → file_of d (cells_in file) ≡ file
  same_bytes all_Known =
      let same = saved_again in
      same_files t (file_of d (cells_in file)) file same.header (λ i h. same.known i h (all_Known i h)) (same.long ∙ facts.whole) facts.whole

-- ---- read into a list, and written to a buffer

module _ (file list buffer : List ℕ) (d t : ℕ) (answer : read_answer file (length (rows_of list)) ≡ Ok (d, t))
    (room : length file ≤ length buffer) where
  abbrev rows : List ℕ
  rows = take t (rows_of (filled file list (Ok (d, t))))

  abbrev written : List ℕ
  written = take (length file) (buffer_after d rows buffer (Ok (length file)))

  read : judged file ≡ Ok (d, t)
  read = read_judged file (length (rows_of list)) d t answer

  rows_are : rows ≡ cells_in file
  rows_are = rows_read file d t read list

  -- as many bytes as the file has, whichever cells are unknown
  pub saved_as_long : write_answer d rows (length buffer) ≡ Ok (length file)
  saved_as_long = ap (λ (l : List ℕ). write_answer d l (length buffer)) rows_are ∙ read_saved file d t read (length buffer) room

  -- 'The writer keeps writing full sets as their bits'
  pub full_where_zeros_stood : AreBytes file → SameButUnknown d t file written
  full_where_zeros_stood bytes =
      let same = saved_again file d t bytes read in
      let front = ap (λ (l : List ℕ). take (length file) (file_of d l ++ drop (length file) buffer)) rows_are in
      subst (SameButUnknown d t file)
      (sym (front ∙ take_at (file_of d (cells_in file)) (drop (length file) buffer) (length file) same.long)) same

  pub reading_it_again : ReadAs d rows written
  reading_it_again = reading_what_was_written d rows buffer (length file) saved_as_long

pub writing_what_was_read : (file list buffer : List ℕ) (d t : ℕ) → AreBytes file → read_answer file (length (rows_of list)) ≡ Ok (d, t)
    → ((i : ℕ) → i < t → row_in file i ≢ 0) → length file ≤ length buffer
    → let rows = take t (rows_of (filled file list (Ok (d, t)))) in
    (write_answer d rows (length buffer) ≡ Ok (length file))
    × (buffer_after d rows buffer (Ok (length file)) ≡ file ++ drop (length file) buffer)
writing_what_was_read file list buffer d t bytes answer known room =
    let read = read_judged file (length (rows_of list)) d t answer in (
      saved_as_long file list buffer d t answer room,
      ap (λ (l : List ℕ). l ++ drop (length file) buffer)
          (ap (file_of d) (rows_are file list buffer d t answer room) ∙ same_bytes file d t bytes read known),
    )
