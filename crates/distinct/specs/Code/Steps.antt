-- What the contracts of the two steps speak of.
use Rattle.std.specs.Prelude.{ℕ, zero, suc, ◌≤◌, ◌<◌, ◌≡◌, Bool, true, false, List, [], ◌∷◌, length, take}
use Rattle.sets.specs.Limits.{most_values, most_in_view}
use Rattle.sets.specs.Rows.{width}
use Rattle.sets.specs.Sets.{within}
use Rattle.theory.specs.Kept.{rows_at, tries}
use Rattle.theory.specs.Pairings.{at}
use Rattle.theory.specs.Code.Search.{Stands}
use Rattle.pairing.specs.declared.seats.Seating.{Seating}
use Rattle.pairing.specs.Code.Seats.{Below, Sitting, seats}

-- the rows are those of a column with d values
pub record InColumn (d : ℕ) (rows : List ℕ) : Type 0 where
  pub column : d ≤ most_values
  pub rows_within : (i : ℕ) → i < length rows → within d (at rows i) ≡ true

-- the rows of a column with d values, no more than a view may have, and a place for each in the list
pub record Askable (d : ℕ) (view list : List ℕ) : Type 0 where
  pub few : length view ≤ most_in_view
  pub room : length view ≤ length list
  pub column : InColumn d view

-- places for each row of the view, and for a seat of each value
pub record Places (view places : List ℕ) : Type 0 where
  pub rows : length view ≤ length places
  pub seats : seats ≤ length places

-- the marks before place n, and none from there on
unfoldable pub before : ℕ → List Bool → List Bool
before n [] = []
before zero (m ∷ ms) = false ∷ before zero ms
before (suc n) (m ∷ ms) = m ∷ before n ms

-- the rows on the seats are marked rows of the view, as many as the rank of the marked rows
pub record Pairs (view : List ℕ) (ms : List Bool) (s : Seating) (rows columns mates : List ℕ) : Type 0 where
  pub sits : Sitting s rows columns mates
  pub places : List ℕ
  pub stands : Stands width view ms places
  pub listed : take s.used rows ≡ rows_at view places
  pub small : (i : ℕ) → Below s.d (at view i)

-- ---- a turn of offers: first the marked rows are offered seats, then the others; those before place n have been

-- the marked rows of which a largest pairing sits on the seats: those before n; in the others' turn all of them
unfoldable pub offered : Bool → ℕ → List Bool → List Bool
offered true n ms = before n ms
offered false n ms = ms

-- the marks: as they were; in the others' turn, with those of the rows that were tried and kept
unfoldable pub marks_then : Bool → List ℕ → ℕ → List Bool → List Bool
marks_then true view n ms = ms
marks_then false view n ms = tries width view n zero ms
