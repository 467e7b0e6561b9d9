-- What each answer returns, as the request prints it: 'the set there', 'rows in the view, own rows held', 'the count n'; and of a refusal
-- 'its number and a row number'. Assumes nothing.
use Prim.Native.Nat.{ℕ, ◌^◌, ◌<◌}
use mathlib.Core.Path.{◌≡◌, refl, ap}
use mathlib.Core.List.{List, [], ◌∷◌, map}
use Rattle.std.specs.Prelude.{Result, Ok, Err}
use Rattle.sets.specs.declared.Row.{Row}
use Rattle.sets.specs.Rows.{width, bits, as_row}
use Rattle.sets.proofs.RowValues.{row-bits}
use Rattle.refusals.specs.declared.Refusal.TheVariants.{BadRow, NoRoom}
use Rattle.refusals.specs.declared.Refusal.{Refusal}
use Rattle.store.specs.declared.Answer.{Answer}
use Rattle.store.specs.declared.Answer.TheVariants.{Done, Seen, Counted, Listed}
use Rattle.refusals.specs.Refusals.{number_of}
use Rattle.store.specs.Answers.{values_of}

-- every kind of answer, with these values
pub every : Row → ℕ → ℕ → ℕ → ℕ → List (Result Answer Refusal)
every row rows own n i = Ok Done ∷ Ok (Seen row) ∷ Ok (Counted rows own) ∷ Ok (Listed n) ∷ Err (BadRow i) ∷ Err NoRoom ∷ []

pub values_printed : (row : Row) (rows own n i : ℕ)
    → map values_of (every row rows own n i) ≡ [] ∷ (bits row ∷ []) ∷ (rows ∷ own ∷ []) ∷ (n ∷ []) ∷ (i ∷ []) ∷ (0 ∷ []) ∷ []
unfolding every
values_printed row rows own n i = refl

pub numbers_printed : (row : Row) (rows own n i : ℕ) → map number_of (every row rows own n i) ≡ 0 ∷ 0 ∷ 0 ∷ 0 ∷ 2 ∷ 10 ∷ []
unfolding every
numbers_printed row rows own n i = refl

-- the row that is shown is the set there
pub shown_set : (set : ℕ) → set < 2 ^ width → values_of (Ok (Seen (as_row set))) ≡ set ∷ []
shown_set set h = ap (λ (n : ℕ). n ∷ []) (row-bits set h)
