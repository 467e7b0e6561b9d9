-- Which rows DISTINCT keeps (the request, section of that name). Rows of a view are marked, one mark for each: true where the row is kept.
use Rattle.std.specs.Prelude.{ℕ, zero, suc, Bool, true, false, not, cond, ◌&&◌, List, [], ◌∷◌, map, ltb, length, get_or, set}
use Rattle.sets.specs.Sets.{proper}
use Rattle.theory.specs.Pairings.{at, among, rank}

-- the mark of row i, and false past the end
abbrev pub marked : List Bool → ℕ → Bool
marked ms i = get_or ms i false

-- the rows that are marked
unfoldable pub pick : List Bool → List ℕ → List ℕ
pick [] rows = []
pick (m ∷ ms) [] = []
pick (true ∷ ms) (r ∷ rows) = r ∷ pick ms rows
pick (false ∷ ms) (r ∷ rows) = pick ms rows

-- ---- the first step

-- 'A row is minimal when no row of the view is a proper subset of it.'
unfoldable pub minimal : List ℕ → ℕ → Bool
minimal [] r = true
minimal (a ∷ view) r = not (proper a r) && minimal view r

-- 'Among equal minimal rows the first in view order is kept.' The marks of rows, where those of `before` stand before them.
unfoldable pub firsts_after : List ℕ → List ℕ → List ℕ → List Bool
firsts_after view before [] = []
firsts_after view before (r ∷ rows) = (minimal view r && not (among r before)) ∷ firsts_after view (r ∷ before) rows

unfoldable pub firsts : List ℕ → List Bool
firsts view = firsts_after view [] view

-- the different minimal sets of a view, one row for each
abbrev pub minimals : List ℕ → List ℕ
minimals view = pick (firsts view) view

-- ---- the second step

-- 'One is kept exactly when it raises the rank of the rows kept so far.' (A row that is kept already does not.)
unfoldable pub try : ℕ → List ℕ → List Bool → ℕ → List Bool
try d view ms i = cond (ltb (rank d (pick ms view)) (rank d (pick (set ms i true) view))) (set ms i true) ms

-- 'The other rows are then tried in view order': the n rows from i on
unfoldable pub tries : ℕ → List ℕ → ℕ → ℕ → List Bool → List Bool
tries d view zero i ms = ms
tries d view (suc n) i ms = tries d view n (suc i) (try d view ms i)

-- ---- what is kept

unfoldable pub marks : ℕ → List ℕ → List Bool
marks d view = tries d view (length view) zero (firsts view)

-- the places of the marks, the first place being i
unfoldable pub positions : ℕ → List Bool → List ℕ
positions i [] = []
positions i (true ∷ ms) = i ∷ positions (suc i) ms
positions i (false ∷ ms) = positions (suc i) ms

-- 'The kept rows are reported in view order.' 'Positions count from 0.'
unfoldable pub kept : ℕ → List ℕ → List ℕ
kept d view = positions zero (marks d view)

-- the rows at the given positions
abbrev pub rows_at : List ℕ → List ℕ → List ℕ
rows_at view is = map (at view) is
