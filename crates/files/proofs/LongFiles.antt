-- Two lessons glued into one file (wish 2): a file that is read is refused with 29 once anything stands behind it, and the reader hands out no row
-- of it. So a buffer that is longer than what was written to it is no file. Assumes nothing.
use Prim.Native.Nat.{ℕ, zero, suc, ◌+◌, ◌*◌, ◌≤◌, ◌<◌}
use mathlib.Core.Path.{◌≡◌, refl, sym, ap₂, ◌∙◌}
use mathlib.Core.List.{List, ◌++◌}
use native.Mathlib.Omega.{arith}
use lib.ListN.{length, drop, length-append, length-drop, get_or-append}
use Rattle.std.specs.Prelude.{Ok, Err, None}
use Rattle.refusals.specs.declared.Refusal.TheVariants.{LongFile}
use Rattle.refusals.proofs.Outcomes.{refuses}
use Rattle.files.specs.Bytes.{big}
use Rattle.files.specs.Files.{values_in, count_in}
use Rattle.files.specs.FileCases.{file_cases}
use Rattle.files.specs.Reading.{judged, read_answer}
use Rattle.files.specs.RowByRow.{step_at}
use Rattle.files.specs.Writing.{file_of, write_answer, buffer_after}
use Rattle.files.proofs.FilesJudged.{HeaderRight, long_gives}
use Rattle.files.proofs.ReadFiles.{readable, read_judged, still_refused}
use Rattle.files.proofs.ReaderTurns.{refused_no_rows}
use Rattle.files.proofs.TablesSaved.{saved_right}
use Rattle.files.proofs.ReadBack.{read_back}

-- numbers in the file stay what they are, whatever stands behind it
big_front : (file rest : List ℕ) (from n : ℕ) → from + n ≤ length file → big (file ++ rest) from n ≡ big file from n
unfolding big
big_front file rest from zero h = refl
big_front file rest from (suc n) h =
    ap₂ (λ (a b : ℕ). a * 256 + b) (big_front file rest from n (omega arith)) (get_or-append file rest zero (from + n) (omega arith))

module _ (file rest : List ℕ) (d t : ℕ) (read : judged file ≡ Ok (d, t)) (more : 0 < length rest) where
  abbrev glued : List ℕ
  glued = file ++ rest

  -- so its header is that of the file
  same : (from n : ℕ) → from + n ≤ 8 → big glued from n ≡ big file from n
  same from n h = big_front file rest from n (omega (arith, (readable file d t read).whole))

  glued_header : HeaderRight glued
  glued_header =
      let right = (readable file d t read).right.front in
      let mark = same 0 3 (omega arith) in
      let version = same 3 2 (omega arith) in
      let values = same 5 1 (omega arith) in
      let count = same 6 2 (omega arith) in
      record {
        header = omega (arith, right.header, length-append file rest);
        mark = mark ∙ right.mark;
        version = version ∙ right.version;
        some_value = λ e. right.some_value (sym values ∙ e);
        values = omega (arith, values, right.values);
        few = omega (arith, count, right.few);
      }

  longer : 8 + 8 * count_in glued < length glued
  longer = omega (arith, same 6 2 (omega arith), (readable file d t read).right.whole, length-append file rest, more)

  glued_judged : judged glued ≡ Err LongFile
  unfolding judged
  glued_judged = refuses Err (file_cases glued) LongFile (long_gives glued glued_header longer) (Ok (values_in glued, count_in glued))

  pub glued_refused : (places : ℕ) → read_answer (file ++ rest) places ≡ Err LongFile
  glued_refused places = still_refused glued places LongFile glued_judged

  pub glued_no_rows : (k : ℕ) → step_at (file ++ rest) k ≡ record { row = None; next = k }
  glued_no_rows = refused_no_rows glued LongFile glued_judged

pub longer_buffer_refused : (d : ℕ) (table buffer : List ℕ) (n : ℕ) → write_answer d table (length buffer) ≡ Ok n → n < length buffer
    → (places : ℕ) → read_answer (buffer_after d table buffer (Ok n)) places ≡ Err LongFile
longer_buffer_refused d table buffer n saved longer =
    let t = length table in
    let right = (saved_right d table (length buffer) n saved).0 in
    let read = read_judged (file_of d table) t d t ((read_back d table right).answers t (omega arith)) in
    glued_refused (file_of d table) (drop n buffer) d t read (omega (arith, length-drop n buffer, longer))
