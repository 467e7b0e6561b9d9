-- What any caller is answered, case by case, and what is known of a view that may be asked about. Assumes nothing.
use Prim.Native.Nat.{ℕ, ◌<◌, ◌≤◌}
use mathlib.Core.Path.{◌≡◌, ap, ◌∙◌}
use mathlib.Core.Bool.{Bool, cond}
use mathlib.Core.List.{List}
use lib.Dec.{ltb}
use lib.ListN.{length}
use borrow.Author.Tests.{lt-ltb, le-ltb}
use Rattle.sets.specs.Limits.{most_in_view}
use Rattle.sets.proofs.BadRows.{bad_row-none}
use Rattle.theory.specs.Kept.{kept}
use Rattle.refusals.specs.declared.Refusal.{Refusal}
use Rattle.refusals.specs.declared.Refusal.TheVariants.{ShortList}
use Rattle.refusals.specs.Cases.{decided}
use Rattle.refusals.specs.TableCases.{table_cases}
use Rattle.refusals.proofs.Outcomes.{NoneApplies, Gives, stands_first, refuses_first}
use Rattle.refusals.proofs.TablesJudged.{right_parts}
use Rattle.std.specs.Prelude.{Result, Ok, Err}
use Rattle.distinct.specs.Asked.{place_cases, ask_cases, ask_answer}
use Rattle.distinct.specs.Code.Steps.{Askable}

module _ (d : ℕ) (view : List ℕ) where
  abbrev accepts : Result ℕ Refusal
  accepts = Ok (length (kept d view))

  pub view_refused : (places : ℕ) (r : Refusal) → Gives (table_cases most_in_view d view) r → ask_answer d view places ≡ Err r
  unfolding ask_answer ask_cases
  view_refused places r given = refuses_first Err (table_cases most_in_view d view) (place_cases view places) r given accepts

  module _ (right : NoneApplies (table_cases most_in_view d view)) where
    then_places : (places : ℕ) → ask_answer d view places ≡ cond (ltb places (length view)) (Err ShortList) accepts
    unfolding ask_answer ask_cases decided
    then_places places = stands_first Err (table_cases most_in_view d view) (place_cases view places) right accepts

    pub list_refused : (places : ℕ) → places < length view → ask_answer d view places ≡ Err ShortList
    list_refused places h = then_places places ∙ ap (λ (b : Bool). cond b (Err ShortList) accepts) (lt-ltb places (length view) h)

    pub answers : (places : ℕ) → length view ≤ places → ask_answer d view places ≡ Ok (length (kept d view))
    answers places h = then_places places ∙ ap (λ (b : Bool). cond b (Err ShortList) accepts) (le-ltb places (length view) h)

    pub may_ask : (list : List ℕ) → length view ≤ length list → Askable d view list
    may_ask list room =
        let parts = right_parts most_in_view d view right in
        record { few = parts.small; room = room; column = record { column = parts.values; rows_within = bad_row-none d view parts.none_bad } }
