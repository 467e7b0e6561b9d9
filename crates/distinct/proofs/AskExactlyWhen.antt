-- When a view is refused, with which number and which row. Assumes nothing.
use Prim.Native.Nat.{ℕ, ◌<◌}
use mathlib.Core.Path.{◌≡◌, refl, ap}
use mathlib.Core.Logic.{◌↔◌, ◌≢◌}
use mathlib.Core.Bool.{false}
use mathlib.Core.List.{List}
use native.Mathlib.Omega.{arith}
use lib.ListN.{length}
use Rattle.sets.specs.Limits.{most_in_view}
use Rattle.sets.proofs.Bools.{not_both}
use Rattle.sets.proofs.BadRows.{LowestBad}
use Rattle.theory.specs.Kept.{kept}
use Rattle.refusals.specs.declared.Refusal.{Refusal}
use Rattle.refusals.specs.Refusals.{number_of, row_of}
use Rattle.refusals.specs.Cases.{applies, Given, Rising}
use Rattle.refusals.specs.TableCases.{table_cases}
use Rattle.refusals.proofs.GivenExactlyWhen.{given_exactly_when}
use Rattle.refusals.proofs.RowsReturned.{table_rising, lowest_bad_row, no_row}
use Rattle.std.specs.Prelude.{Result, Ok, Err}
use Rattle.distinct.specs.Asked.{place_cases, ask_cases, ask_answer}

module _ (d : ℕ) (view : List ℕ) (places : ℕ) where
  abbrev accepts : Result ℕ Refusal
  accepts = Ok (length (kept d view))

  ask_rising : Rising 0 (ask_cases d view places)
  unfolding ask_cases
  ask_rising = table_rising most_in_view d view (place_cases view places) (omega arith, tt)

  pub ask_exactly_when : (n : ℕ) → 0 < n → (number_of (ask_answer d view places) ≡ n) ↔ Given (ask_cases d view places) n
  unfolding ask_answer
  ask_exactly_when = given_exactly_when Err number_of (λ r. refl) accepts refl 0 (ask_cases d view places) ask_rising

  -- with 2 'the lowest such row'
  pub ask_bad_row : number_of (ask_answer d view places) ≡ 2 → LowestBad d view (row_of (ask_answer d view places))
  unfolding ask_answer ask_cases
  ask_bad_row e =
      let given = lowest_bad_row Err number_of (λ r. refl) accepts most_in_view d view (place_cases view places) (omega arith, tt) refl e in
      rw (ap row_of given.1) given.2

  -- and 0 with any other number
  never_26 : applies (ask_cases d view places) 26 ≡ false
  unfolding applies ask_cases table_cases
  never_26 = refl

  pub ask_no_row : number_of (ask_answer d view places) ≢ 2 → row_of (ask_answer d view places) ≡ 0
  unfolding ask_answer
  ask_no_row not-2 = no_row Err number_of (λ r. refl) accepts row_of (λ r. refl) refl (ask_cases d view places) not-2
      (λ e. not_both ((ask_exactly_when 26 (omega arith)).0 e).0 never_26)
