-- When a table is not saved, with which number, and what is returned and written (wish 1, 'Teachers want to save a table'). Assumes nothing.
use Prim.Native.Nat.{ℕ, ◌+◌, ◌*◌, ◌≤◌, ◌<◌}
use mathlib.Core.Path.{◌≡◌, refl, sym, ap, ◌∙◌}
use mathlib.Core.Logic.{◌↔◌, ◌≢◌}
use mathlib.Core.Bool.{false}
use mathlib.Core.List.{List}
use native.Mathlib.Omega.{arith}
use lib.ListN.{length, drop}
use lib.Seq.{length-take-le, length_front, drop_at}
use borrow.Author.Tests.{ltb-false}
use Rattle.std.specs.Prelude.{Result, Ok, Err}
use Rattle.sets.specs.Limits.{most_rows}
use Rattle.sets.proofs.Bools.{not_both}
use Rattle.sets.proofs.BadRows.{LowestBad}
use Rattle.refusals.specs.Cases.{applies, Given, Rising}
use Rattle.refusals.specs.TableCases.{table_cases}
use Rattle.refusals.proofs.FirstInOrder.{none_given}
use Rattle.refusals.proofs.GivenExactlyWhen.{rising_numbered, given_exactly_when}
use Rattle.refusals.proofs.RowsReturned.{table_rising, no_row, lowest_bad_row}
use Rattle.refusals.specs.declared.Refusal.{Refusal}
use Rattle.refusals.specs.Refusals.{number_of, row_of}
use Rattle.files.specs.Writing.{file_of, room_cases, write_cases, write_answer, buffer_after}
use Rattle.files.proofs.TableBytes.{file_length}

module _ (d : ℕ) (table : List ℕ) (room : ℕ) where
  abbrev answer : Result ℕ Refusal
  answer = write_answer d table room

  abbrev accepts : Result ℕ Refusal
  accepts = Ok (8 + 8 * length table)

  -- the cases stand in the order of their numbers
  room_rising : Rising 2 (room_cases table room)
  room_rising = (omega arith, tt)

  write_rising : Rising 0 (write_cases d table room)
  write_rising = table_rising most_rows d table (room_cases table room) room_rising

  pub write_exactly_when : (n : ℕ) → 0 < n → (number_of (write_answer d table room) ≡ n) ↔ Given (write_cases d table room) n
  unfolding write_answer
  write_exactly_when = given_exactly_when Err number_of (λ r. refl) accepts refl 0 (write_cases d table room) write_rising

  -- 'its length is answered', and the buffer has so many bytes
  pub length_returned : number_of answer ≡ 0 → (answer ≡ Ok (8 + 8 * length table)) × (8 + 8 * length table ≤ room) × (row_of answer ≡ 0)
  unfolding write_answer table_cases
  length_returned e =
      let cases = write_cases d table room in
      let none = none_given Err number_of (λ r. refl) accepts refl cases (rising_numbered 0 cases write_rising) e in
      (none.1, ltb-false room (8 + 8 * length table) none.0.1.1.0, ap row_of none.1)

  -- '2 as for a table': it returns the lowest bad row
  pub write_bad_row : number_of answer ≡ 2 → LowestBad d table (row_of answer)
  unfolding write_answer
  write_bad_row e =
      let given = lowest_bad_row Err number_of (λ r. refl) accepts most_rows d table (room_cases table room) room_rising refl e in
      rw (ap row_of given.1) given.2

  -- and 0 with any other number
  never_26 : applies (write_cases d table room) 26 ≡ false
  unfolding applies table_cases
  never_26 = refl

  pub write_no_row : number_of answer ≢ 2 → row_of answer ≡ 0
  unfolding write_answer
  write_no_row ne = no_row Err number_of (λ r. refl) accepts row_of (λ r. refl) refl (write_cases d table room) ne
      (λ e. not_both ((write_exactly_when 26 (omega arith)).0 e).0 never_26)

module _ (d : ℕ) (table buffer : List ℕ) where
  -- what an answer with a refusal number leaves
  keeps : (answer : Result ℕ Refusal) → number_of answer ≢ 0 → buffer_after d table buffer answer ≡ buffer
  keeps (Ok n) ne = absurd (ne refl)
  keeps (Err r) ne = refl

  -- a refusal 'writes to no lent memory'
  pub refused_writes_nothing : number_of (write_answer d table (length buffer)) ≢ 0
      → buffer_after d table buffer (write_answer d table (length buffer)) ≡ buffer
  refused_writes_nothing = keeps (write_answer d table (length buffer))

  -- 'bytes beyond the file unchanged'
  pub bytes_beyond_stay : (n : ℕ) → write_answer d table (length buffer) ≡ Ok n
      → (drop n (buffer_after d table buffer (Ok n)) ≡ drop n buffer) × (length (buffer_after d table buffer (Ok n)) ≡ length buffer)
  bytes_beyond_stay n e =
      let returned = length_returned d table (length buffer) (ap number_of e) in
      let size : n ≡ 8 + 8 * length table = cc in
      let long : length (file_of d table) ≡ n = file_length d table ∙ sym size in (
        drop_at (file_of d table) (drop n buffer) n long,
        length_front buffer (file_of d table) n (long ∙ sym (length-take-le n buffer (omega (arith, returned.1)))),
      )
