-- The answers by the request's numbers: 'Where an answer is an enum, a definition gives this paper's number and values for each case of the enum.'
-- (`number_of` and `row_of` stand in `refusals`.)
use Rattle.std.specs.Prelude.{ℕ, Bool, true, false, List, [], ◌∷◌, Result, Ok, Err}
use Rattle.sets.specs.Rows.{bits}
use Rattle.refusals.specs.Refusals.{row}
use Rattle.refusals.specs.declared.Refusal.{Refusal}
use Rattle.store.specs.declared.Answer.{Answer}
use Rattle.store.specs.declared.Answer.TheVariants.{Done, Seen, Counted, Listed}

-- the values that an answer returns: 'the set there', 'rows in the view, own rows held', 'the count n', or the row number of a refusal
abbrev pub values_of : Result Answer Refusal → List ℕ
values_of (Ok Done) = []
values_of (Ok (Seen row)) = bits row ∷ []
values_of (Ok (Counted rows held)) = rows ∷ held ∷ []
values_of (Ok (Listed n)) = n ∷ []
values_of (Err r) = row r ∷ []

-- the call is done, not refused
unfoldable pub accepted : {A : Type 0} → Result A Refusal → Bool
accepted (Ok a) = true
accepted (Err r) = false
