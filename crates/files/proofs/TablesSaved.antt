-- What is answered of a table once it is judged, and then the buffer looked at; and what is known of a table that is saved. Assumes nothing.
use Prim.Native.Nat.{ℕ, ◌+◌, ◌*◌, ◌≤◌, ◌<◌}
use mathlib.Core.Path.{◌≡◌, sym, ap, ◌∙◌}
use mathlib.Core.Bool.{Bool, true, false, cond}
use mathlib.Core.List.{List}
use lib.Dec.{ltb}
use lib.ListN.{length}
use borrow.Author.Tests.{lt-ltb, le-ltb}
use Rattle.std.specs.Prelude.{Result, Ok, Err}
use Rattle.sets.specs.Limits.{most_rows}
use Rattle.refusals.specs.declared.Refusal.{Refusal}
use Rattle.refusals.specs.declared.Refusal.TheVariants.{ShortBuffer}
use Rattle.refusals.specs.Cases.{Case, decided}
use Rattle.refusals.specs.TableCases.{table_cases}
use Rattle.refusals.proofs.Outcomes.{NoneApplies, Gives, none_first, stands_first, refuses_first, not_refused, not_ok, same_ok}
use Rattle.refusals.proofs.TablesJudged.{TableRight, right_parts}
use Rattle.files.specs.Writing.{room_cases, write_cases, write_answer}

module _ (d : ℕ) (table : List ℕ) (room : ℕ) where
  abbrev cases : List Case
  cases = table_cases most_rows d table

  abbrev accepts : Result ℕ Refusal
  accepts = Ok (8 + 8 * length table)

  pub still_refused : (r : Refusal) → Gives cases r → write_answer d table room ≡ Err r
  unfolding write_answer
  still_refused r g = refuses_first Err cases (room_cases table room) r g accepts

  module _ (right : NoneApplies cases) (t : ℕ) (count : t ≡ length table) where
    then_room : (b : Bool) → ltb room (8 + 8 * t) ≡ b → write_answer d table room ≡ cond b (Err ShortBuffer) (Ok (8 + 8 * t))
    unfolding write_answer decided
    then_room b e =
        stands_first Err cases (room_cases table room) right accepts
        ∙ ap (λ (n : ℕ). cond (ltb room (8 + 8 * n)) (Err ShortBuffer) (Ok (8 + 8 * n))) (sym count)
        ∙ ap (λ (x : Bool). cond x (Err ShortBuffer) (Ok (8 + 8 * t))) e

    pub short : room < 8 + 8 * t → write_answer d table room ≡ Err ShortBuffer
    short h = then_room true (lt-ltb room (8 + 8 * t) h)

    pub saved : 8 + 8 * t ≤ room → write_answer d table room ≡ Ok (8 + 8 * t)
    saved h = then_room false (le-ltb room (8 + 8 * t) h)

  -- the other way: a table that is saved is right, and its file has this length
  pub saved_right : (n : ℕ) → write_answer d table room ≡ Ok n → TableRight most_rows d table × (n ≡ 8 + 8 * length table)
  unfolding write_answer
  saved_right n e =
      let none = not_refused Err accepts (Ok n) (not_ok n) (write_cases d table room) e in
      (right_parts most_rows d table (none_first cases (room_cases table room) none.0), sym (same_ok (8 + 8 * length table) n none.1))
