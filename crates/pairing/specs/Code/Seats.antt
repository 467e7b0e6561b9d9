-- What the contracts of the seats speak of.
use Rattle.std.specs.Prelude.{ℕ, zero, suc, ◌+◌, ◌≤◌, ◌<◌, ◌≡◌, ◌≢◌, ◌⊎◌, Bool, true, false, List, [], ◌∷◌, ◌++◌, length, take}
use Rattle.std.specs.Int.Bits.{bit_and, bit_or}
use Rattle.sets.specs.Sets.{has, single, minus}
use Rattle.sets.specs.Rows.{width, bits, rows_of}
use Rattle.theory.specs.Pairings.{size, at, Seated, Pairing}
use Rattle.pairing.specs.declared.seats.Seating.{Seating}
use Rattle.pairing.specs.declared.seats.Seats.{Seats}
use Rattle.pairing.specs.Code.Asking.{Inside, Index, Shut}

-- how many seats there are: as many as a column can have values, for a row that sits has a value of its own
abbrev pub seats : ℕ
seats = width

-- row i stands in the columns of its values now, and else they are as they were
pub record Entered (row i : ℕ) (columns columns' : List ℕ) : Type 0 where
  pub wide : length columns' ≡ length columns
  pub new : (v : ℕ) → has row v ≡ true → has (at columns' v) i ≡ true
  pub old : (j v : ℕ) → has (at columns v) j ≡ true → has (at columns' v) j ≡ true
  pub from : (j v : ℕ) → has (at columns' v) j ≡ true → (j ≡ i) ⊎ (has (at columns v) j ≡ true)

-- the mates of rows on seats: a mate is 0, or one more than a value
pub record Mates (p : List ℕ) : Type 0 where
  pub few : length p ≤ seats
  pub small : (i : ℕ) → at p i ≤ width

-- r is the set of the mates of the rows that were not asked
pub record Unreached (asked : ℕ) (p : List ℕ) (r : ℕ) : Type 0 where
  pub all : (i u : ℕ) → at p i ≡ suc u → has asked i ≡ false → has r u ≡ true
  pub only : (u : ℕ) → has r u ≡ true → (i : ℕ) × (at p i ≡ suc u) × (has asked i ≡ false)

-- every value of the row is below d
abbrev pub Below : ℕ → ℕ → Type 0
Below d row = (v : ℕ) → has row v ≡ true → v < d

-- The rows R on the seats have the mates p, each row one: a pairing that uses them all.
pub record Bench (s : Seating) (R columns p : List ℕ) : Type 0 where
  pub used : length R ≡ s.used
  pub column : s.d ≤ width
  pub pairing : Pairing width R p
  pub full : size p ≡ length R
  pub small : (i : ℕ) → Below s.d (at R i)
  pub new : (v : ℕ) → has (bits s.free) v ≡ true → (v < s.d) × (Seated p v → ⊥)
  pub free : (v : ℕ) → v < s.d → (Seated p v → ⊥) → has (bits s.free) v ≡ true
  pub shut : Shut R p (bits s.dead)
  pub fresh : (i v : ℕ) → has (at R i) v ≡ true → has (bits s.fresh) v ≡ false
  pub index : Index R columns (bits s.heavy)

-- the seats in use are the first
pub record Sitting (s : Seating) (rows columns mates : List ℕ) : Type 0 where
  pub rows_wide : length rows ≡ seats
  pub mates_wide : length mates ≡ seats
  pub few : s.used ≤ seats
  pub bench : Bench s (take s.used rows) columns (take s.used mates)

-- the row holds no free value, and there is a seat that it may get
pub record Seeks (row : ℕ) (s : Seating) (rows columns mates : List ℕ) : Type 0 where
  pub sits : Sitting s rows columns mates
  pub low : Below s.d row
  pub apart : bit_and row (bits s.free) ≡ zero
  pub room : s.used < seats

-- the seats are s' now that v has got a row, and the new row a seat
pub record Reseated (s : Seating) (row v : ℕ) (s' : Seating) : Type 0 where
  pub d : s'.d ≡ s.d
  pub used : s'.used ≡ s.used + 1
  pub entered : s'.entered ≡ s.entered
  pub free : bits s'.free ≡ minus (bits s.free) (single v)
  pub dead : bits s'.dead ≡ bits s.dead
  pub fresh : bits s'.fresh ≡ minus (bits s.fresh) row
  pub heavy : bits s'.heavy ≡ bit_or (bits s.heavy) (single s.used)

-- the row has got no seat: it holds dead values only, or no value is free
pub record Passed (row : ℕ) (s : Seating) (rows : List ℕ) (s' : Seating) (rows' : List ℕ) : Type 0 where
  pub used : s'.used ≡ s.used
  pub rows_kept : take s.used rows' ≡ take s.used rows
  pub why : Inside row (bits s'.dead) ⊎ (bits s'.free ≡ zero)

-- the row has got the next seat
pub record Raised (row : ℕ) (s : Seating) (rows : List ℕ) (s' : Seating) (rows' : List ℕ) : Type 0 where
  pub used : s'.used ≡ s.used + 1
  pub rows_more : take s'.used rows' ≡ take s.used rows ++ row ∷ []

-- what a row is answered that is asked for a seat
pub record OfSeat (row : ℕ) (s : Seating) (rows : List ℕ) (s' : Seating) (rows' columns' mates' : List ℕ) : Type 0 where
  pub sits : Sitting s' rows' columns' mates'
  pub column : s'.d ≡ s.d
  pub either : Passed row s rows s' rows' ⊎ Raised row s rows s' rows'

-- the same of the seats in the code's hands
abbrev pub SitOn : Seats → Type 0
SitOn s = Sitting s.seating (rows_of s.rows.now) (rows_of s.columns.now) s.mates.now

-- r answers whether the row has got a seat
pub record Answers (r : Bool) (row : ℕ) (s s' : Seats) : Type 0 where
  pub seat : OfSeat row s.seating (rows_of s.rows.now) s'.seating (rows_of s'.rows.now) (rows_of s'.columns.now) s'.mates.now
  pub more : r ≡ true → s.seating.used < s'.seating.used
  pub same : r ≡ false → s'.seating.used ≤ s.seating.used

-- r answers whether a row is passed over without a search
pub record Hopeless (r : Bool) (row free dead : ℕ) : Type 0 where
  pub why : r ≡ true → Inside row dead ⊎ (free ≡ zero)
  pub some : r ≡ false → free ≢ zero
