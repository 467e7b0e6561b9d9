-- Pairings and the rank (the request, 'Which rows DISTINCT keeps'): 'A pairing gives some values distinct rows that contain them.
-- The rank of a list of rows is the size of its largest pairing.'
-- A pairing is a list with a mate for each row: 0 where the row has none, v + 1 where its mate is the value v.
use Rattle.std.specs.Prelude.{ℕ, zero, suc, ◌≤◌, ◌<◌, max, ◌≡◌, Bool, true, false, not, cond, ◌||◌, ◌&&◌, eqb, length, get_or}
use mathlib.Core.List.{List, [], ◌∷◌, map, Memᴰ}
use Rattle.sets.specs.Sets.{has}
use Rattle.theory.specs.Family.{values, selections}

-- ---- all pairings, for counting

-- what a row's mate can be: none, or one of its values
unfoldable pub mates : ℕ → ℕ → List ℕ
mates d r = zero ∷ map suc (values d r)

-- x is one of the list
unfoldable pub among : ℕ → List ℕ → Bool
among x [] = false
among x (y ∷ l) = eqb x y || among x l

-- no value is the mate of two rows
unfoldable pub once : List ℕ → Bool
once [] = true
once (zero ∷ p) = once p
once (suc v ∷ p) = not (among (suc v) p) && once p

-- those of the lists in which no value is the mate of two rows
unfoldable pub onces : List (List ℕ) → List (List ℕ)
onces [] = []
onces (p ∷ ps) = cond (once p) (p ∷ onces ps) (onces ps)

unfoldable pub pairings : ℕ → List ℕ → List (List ℕ)
pairings d rows = onces (selections (map (mates d) rows))

-- how many rows have a mate
unfoldable pub size : List ℕ → ℕ
size [] = zero
size (zero ∷ p) = size p
size (suc v ∷ p) = suc (size p)

-- the largest of their sizes
unfoldable pub most : List (List ℕ) → ℕ
most [] = zero
most (p ∷ ps) = max (size p) (most ps)

unfoldable pub rank : ℕ → List ℕ → ℕ
rank d rows = most (pairings d rows)

-- ---- one pairing, read by place

-- the number at place i, and 0 past the end
abbrev pub at : List ℕ → ℕ → ℕ
at l i = get_or l i zero

-- v is one of the values of row r below d
abbrev pub In : ℕ → ℕ → ℕ → Type 0
In d r v = (v < d) × (has r v ≡ true)

-- value v is the mate of some row
abbrev pub Seated : List ℕ → ℕ → Type 0
Seated p v = (i : ℕ) × (at p i ≡ suc v)

-- p is a pairing of the rows: a row's mate is one of its values, and no value has two rows
pub record Pairing (d : ℕ) (rows p : List ℕ) : Type 0 where
  pub fits : length p ≡ length rows
  pub holds : (i v : ℕ) → at p i ≡ suc v → In d (at rows i) v
  pub apart : (i j v : ℕ) → at p i ≡ suc v → at p j ≡ suc v → i ≡ j

-- no pairing of the rows is larger than p
abbrev pub Largest : ℕ → List ℕ → List ℕ → Type 0
Largest d rows p = (q : List ℕ) → Pairing d rows q → size q ≤ size p

-- ---- which sets are in a family

-- set s and row r have a value in common
abbrev pub Meets : ℕ → ℕ → ℕ → Type 0
Meets d s r = (v : ℕ) × (has s v ≡ true) × In d r v

-- 'S meets every row and each value of S can be given a row of its own that contains it'
pub record Admits (d : ℕ) (rows : List ℕ) (s : ℕ) : Type 0 where
  pub meets : (r : ℕ) → Memᴰ r rows → Meets d s r
  pub mates : List ℕ
  pub pairing : Pairing d rows mates
  pub seated : (v : ℕ) → has s v ≡ true → Seated mates v
