-- A fresh reader, stepped through a file: it hands out exactly the rows that `read` writes, in order, and then says that there are no more,
-- and keeps saying so. Over a file with any refusal but 28 it says so at once. Assumes nothing.
use Prim.Native.Nat.{ℕ, zero, suc, ◌+◌, ◌*◌, ◌≤◌, ◌<◌}
use mathlib.Core.Path.{◌≡◌, refl, sym, ap, ◌∙◌}
use mathlib.Core.List.{List}
use native.Mathlib.Numerals.{add-one}
use native.Mathlib.Omega.{arith}
use lib.ListN.{length, get_or, drop}
use borrow.Author.Tests.{lt-ltb, le-ltb}
use Rattle.std.specs.Prelude.{Ok, Err, Some, None}
use Rattle.sets.specs.Rows.{row_words, rows_of, as_row}
use Rattle.sets.proofs.RowValues.{row_again}
use Rattle.sets.proofs.LentRows.{words-at}
use Rattle.refusals.specs.declared.Refusal.{Refusal}
use Rattle.files.specs.declared.Step.{Step}
use Rattle.files.specs.Rows.{list_to}
use Rattle.files.specs.Files.{count_in, cell_in}
use Rattle.files.specs.Reading.{judged, filled}
use Rattle.files.specs.RowByRow.{step_at, cursor, handed_out}
use Rattle.files.proofs.RowLaws.{length_list, list_at}
use Rattle.files.proofs.ReadFiles.{readable}

-- ---- a file that is read

module _ (file : List ℕ) (d t : ℕ) (read : judged file ≡ Ok (d, t)) where
  within : (k : ℕ) → k < t → step_at file k ≡ record { row = Some (as_row (cell_in file k)); next = k + 1 }
  unfolding step_at
  within k h = rw (read, lt-ltb k t h) refl

  past : (k : ℕ) → t ≤ k → step_at file k ≡ record { row = None; next = k }
  unfolding step_at
  past k h = rw (read, le-ltb k t h) refl

  next : (n : ℕ) → cursor file (suc n) ≡ (step_at file (cursor file n)).next
  unfolding cursor
  next n = refl

  -- the cursor counts the rows handed out
  counts : (n : ℕ) → n ≤ t → cursor file n ≡ n
  unfolding cursor
  counts zero h = refl
  counts (suc n) h = ap (λ (k : ℕ). (step_at file k).next) (counts n (omega arith)) ∙ ap (λ (s : Step). s.next) (within n (omega arith)) ∙ add-one n

  -- and stays once all are
  stays : (k : ℕ) → cursor file (k + t) ≡ t
  stays zero = let e : zero + t ≡ t = omega arith in ap (cursor file) e ∙ counts t (omega arith)
  stays (suc k) =
      let e : suc k + t ≡ suc (k + t) = omega arith in
      ap (cursor file) e ∙ next (k + t) ∙ ap (λ (m : ℕ). (step_at file m).next) (stays k) ∙ ap (λ (s : Step). s.next) (past t (omega arith))

  -- step n hands out the row that `read` writes to place n
  pub rows_in_turn : (words : List ℕ) (n : ℕ) → n < t → handed_out file n ≡ Some (as_row (get_or (rows_of (filled file words (Ok (d, t)))) n zero))
  rows_in_turn words n h =
      let here : n < count_in file = rw (sym (readable file d t read).count) h in
      let long : n < length (list_to (cell_in file) (count_in file)) = omega (arith, here, length_list (cell_in file) (count_in file)) in
      ap (λ (k : ℕ). (step_at file k).row) (counts n (omega arith))
      ∙ ap (λ (s : Step). s.row) (within n h)
      ∙ ap Some (sym (ap as_row (words-at (list_to (cell_in file) (count_in file)) (drop (t * row_words) words) n long)
      ∙ row_again (get_or (list_to (cell_in file) (count_in file)) n zero) ∙ ap as_row (list_at (cell_in file) (count_in file) n here)))

  -- after T steps there are no more rows, however often it is asked
  pub then_no_more : (k : ℕ) → handed_out file (k + t) ≡ None
  then_no_more k = ap (λ (m : ℕ). (step_at file m).row) (stays k) ∙ ap (λ (s : Step). s.row) (past t (omega arith))

-- over a refused file there is no row at all, from any cursor
pub refused_no_rows : (file : List ℕ) (r : Refusal) → judged file ≡ Err r → (k : ℕ) → step_at file k ≡ record { row = None; next = k }
unfolding step_at
refused_no_rows file r e k = rw e refl
