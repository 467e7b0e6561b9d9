-- `distinct_on` meets its contract, by what `settle` and `list_positions` ensure: its places are as many as `settle` asks for. Assumes nothing.
use Rattle.std.proofs.Common.{rules, ◌≡◌, ◌≤◌, ◌*◌, length, ℕ, List, arith}
use Rattle.std.proofs.Math.ListN.{replicate}
use Rattle.sets.specs.Rows.{row_words, rows_of}
use Rattle.sets.proofs.LentRows.{rows_zero-length}
use Rattle.theory.specs.Kept.{kept}
use Rattle.pairing.specs.Code.Seats.{seats}
use Rattle.distinct.specs.Code.Steps.{Places}
use Rattle.distinct.proofs.distinct_on.Goals as goal

-- words for n rows are places for a view of no more rows
row_places : (view : List ℕ) (n words : ℕ) → length view ≤ n → seats ≤ n → words ≡ n * row_words → Places view (rows_of (replicate words 0))
row_places view n words h s is =
    rw is record { rows = omega (arith, rows_zero-length n); seats = omega (arith, rows_zero-length n) }

pub settle-requires-clause-places : goal.settle-requires-clause-places
settle-requires-clause-places g c = search (rules, arith, row_places)

pub returns : goal.returns
unfolding kept
returns g c = grind arith
