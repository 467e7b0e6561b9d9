-- What the contracts of the search speak of, in the words of `theory`: pairings, and the rows that were asked.
-- A set of rows is held as a set of values is, by its places, so there are no more rows than there can be values.
use Rattle.std.specs.Prelude.{ℕ, zero, suc, ◌≤◌, ◌<◌, ◌≡◌, ◌⊎◌, Bool, true, false, cond, List, Option, Some, None, length}
use Rattle.std.specs.Int.Bits.{bit_or}
use Rattle.sets.specs.Sets.{has}
use Rattle.sets.specs.Rows.{width}
use Rattle.theory.specs.Pairings.{size, at, Seated, Pairing}
use Rattle.theory.specs.Code.Search.{Heard}

-- every member of a is one of b
abbrev pub Inside : ℕ → ℕ → Type 0
Inside a b = (i : ℕ) → has a i ≡ true → has b i ≡ true

-- how many of the rows below n are not asked yet: the number that falls
unfoldable pub unasked : ℕ → ℕ → ℕ
unasked zero asked = zero
unasked (suc n) asked = cond (has asked n) (unasked n asked) (suc (unasked n asked))

-- Where the rows that hold a value are found: in the value's column, or among the heavy rows, which need not stand in columns.
pub record Index (rows columns : List ℕ) (heavy : ℕ) : Type 0 where
  pub wide : length columns ≡ width
  pub complete : (i v : ℕ) → has (at rows i) v ≡ true → has (bit_or (at columns v) heavy) i ≡ true
  pub inside : (i v : ℕ) → has (bit_or (at columns v) heavy) i ≡ true → i < length rows

-- The values of `dead` have rows, and these rows hold no other values: no search from elsewhere ever comes to them.
abbrev pub Shut : List ℕ → List ℕ → ℕ → Type 0
Shut rows p dead = (u : ℕ) → has dead u ≡ true → (i : ℕ) × (at p i ≡ suc u) × Inside (at rows i) dead

-- what may be asked: v has no row in the pairing p of the rows
pub record Asks (v : ℕ) (rows columns : List ℕ) (heavy : ℕ) (p : List ℕ) : Type 0 where
  pub small : v < width
  pub few : length rows ≤ width
  pub index : Index rows columns heavy
  pub pairing : Pairing width rows p
  pub new : Seated p v → ⊥

-- the values of `free` may be asked
pub record Searches (free : ℕ) (rows columns : List ℕ) (heavy : ℕ) (p : List ℕ) : Type 0 where
  pub few : length rows ≤ width
  pub index : Index rows columns heavy
  pub pairing : Pairing width rows p
  pub new : (v : ℕ) → has free v ≡ true → Seated p v → ⊥

-- p' is a pairing that is larger by one: v has got a row, and the values that had one have one still
pub record Grown (rows : List ℕ) (v : ℕ) (p p' : List ℕ) : Type 0 where
  pub pairing : Pairing width rows p'
  pub larger : size p' ≡ suc (size p)
  pub seated : Seated p' v
  pub there : (u : ℕ) → Seated p u → Seated p' u
  pub from : (u : ℕ) → Seated p' u → (u ≡ v) ⊎ Seated p u
  pub shut : (dead : ℕ) → Shut rows p dead → has dead v ≡ false → Shut rows p' dead

-- row i has a mate, and every row that holds this mate is asked
abbrev pub Taken : List ℕ → List ℕ → ℕ → ℕ → Type 0
Taken rows p asked i = (w : ℕ) × (at p i ≡ suc w) × Heard width rows (has asked) w

-- the pairing is as it was, and each row that was asked in between is taken
pub record Stuck (rows p : List ℕ) (asked : ℕ) (p' : List ℕ) (asked' : ℕ) : Type 0 where
  pub still : p' ≡ p
  pub closed : (i : ℕ) → has asked' i ≡ true → has asked i ≡ false → Taken rows p asked' i

-- what a value is answered
pub record OfValue (r : Bool) (v : ℕ) (rows p : List ℕ) (asked : ℕ) (p' : List ℕ) (asked' : ℕ) : Type 0 where
  pub more : Inside asked asked'
  pub found : r ≡ true → Grown rows v p p'
  pub stuck : r ≡ false → Stuck rows p asked p' asked'
  pub heard : r ≡ false → Heard width rows (has asked') v

-- what row i, asked to take v, answers
pub record OfRow (r : Bool) (i v : ℕ) (rows p : List ℕ) (asked : ℕ) (p' : List ℕ) (asked' : ℕ) : Type 0 where
  pub more : Inside asked asked'
  pub found : r ≡ true → Grown rows v p p'
  pub stuck : r ≡ false → Stuck rows p asked p' asked'
  pub taken : r ≡ false → Taken rows p asked' i

-- what a search from the values of `free` answers where none of them has got a row
pub record Failed (free : ℕ) (rows p p' : List ℕ) (asked' : ℕ) : Type 0 where
  pub still : p' ≡ p
  pub closed : (i : ℕ) → has asked' i ≡ true → Taken rows p asked' i
  pub heard : (v : ℕ) → has free v ≡ true → Heard width rows (has asked') v

-- what a search from the values of `free` answers: the value that has got a row, or that none has
abbrev pub OfSearch : Option ℕ → ℕ → List ℕ → List ℕ → List ℕ → ℕ → Type 0
OfSearch (Some v) free rows p p' asked' = (v < width) × (has free v ≡ true) × Grown rows v p p'
OfSearch None free rows p p' asked' = Failed free rows p p' asked'
