-- A search for a larger pairing (the request): 'a value that finds its row taken asks that row's present value to move ..
-- No row is asked twice in one search.' These are the words in which the search in code says what it did: `asked` tests whether a row was asked.
use Rattle.std.specs.Prelude.{ℕ, zero, suc, ◌<◌, ◌≡◌, Bool, true, false, length}
use mathlib.Core.List.{List, [], ◌∷◌, Memᴰ}
use Rattle.theory.specs.Pairings.{rank, at, In, Seated}
use Rattle.theory.specs.Kept.{marked, pick}

-- the marked rows of a view at their places, and an empty row, which no pairing can use, at the others
unfoldable pub mask : List Bool → List ℕ → List ℕ
mask ms [] = []
mask [] (r ∷ rows) = zero ∷ mask [] rows
mask (true ∷ ms) (r ∷ rows) = r ∷ mask ms rows
mask (false ∷ ms) (r ∷ rows) = zero ∷ mask ms rows

-- every row that holds v is asked
abbrev pub Heard : ℕ → List ℕ → (ℕ → Bool) → ℕ → Type 0
Heard d rows asked v = (i : ℕ) → In d (at rows i) v → asked i ≡ true

-- every row that was asked has a mate, and every row that holds this mate was asked too
abbrev pub Closed : ℕ → List ℕ → List ℕ → (ℕ → Bool) → Type 0
Closed d rows p asked = (i : ℕ) → asked i ≡ true → (w : ℕ) × (at p i ≡ suc w) × Heard d rows asked w

-- every value that has no row has asked all the rows that hold it
abbrev pub Tried : ℕ → List ℕ → List ℕ → (ℕ → Bool) → Type 0
Tried d rows p asked = (v : ℕ) → v < d → (Seated p v → ⊥) → Heard d rows asked v

-- no number twice
abbrev pub Different : List ℕ → Type 0
Different [] = Unit {0}
Different (x ∷ l) = (Memᴰ x l → ⊥) × Different l

-- the rows at the places `is`, different marked rows of a view, are as many as the rank of the marked rows
pub record Stands (d : ℕ) (view : List ℕ) (ms : List Bool) (is : List ℕ) : Type 0 where
  pub fits : length ms ≡ length view
  pub apart : Different is
  pub marked_all : (i : ℕ) → Memᴰ i is → marked ms i ≡ true
  pub ranks : rank d (pick ms view) ≡ length is
