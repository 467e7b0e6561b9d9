-- A row by value, and the rows of lent memory. These are the only definitions that know how many words a row has.
use Rattle.std.specs.Prelude.{ℕ, ◌*◌, ◌/◌, ◌%◌, ◌^◌, ◌≡◌, List, [], ◌∷◌, ◌++◌}
use Rattle.std.specs.Int.Bits.{bit_xor}
use Rattle.std.proofs.lemmas.List.Edits.{sets}
use Rattle.sets.specs.declared.Row.{Row}
use Rattle.sets.specs.Limits.{word_bits}
use Rattle.sets.specs.Words.{bits_of, rows_in}

-- how many words a row has, and so how many values there can be
abbrev pub row_words : ℕ
row_words = 1

abbrev pub width : ℕ
width = row_words * word_bits

-- the words of a row, low word first
unfoldable pub words_of : Row → List ℕ
words_of r = r.low ∷ []

-- the row as a set of values
unfoldable pub bits : Row → ℕ
bits r = bits_of (words_of r)

-- the row that is this set
unfoldable pub as_row : ℕ → Row
as_row n = record { low = n % 2 ^ word_bits }

-- the row is this set, and its words are the set's
abbrev pub Holds : Row → ℕ → Type 0
Holds r n = (bits r ≡ n) × (r ≡ as_row n)

-- a number below 512 that goes by the set alone: its values below 64, mixed with those from 64 on
unfoldable pub tag_of : ℕ → ℕ
tag_of r = bit_xor (r / 2 ^ word_bits) (r % 2 ^ word_bits) % 509

-- ---- lent words

-- the rows that the words hold
unfoldable pub rows_of : List ℕ → List ℕ
rows_of ws = rows_in row_words ws

-- the words that hold these rows
unfoldable pub in_words : List ℕ → List ℕ
in_words [] = []
in_words (r ∷ rows) = words_of (as_row r) ++ in_words rows

-- the words once row i is the set r, and nothing else is touched
unfoldable pub put_row : List ℕ → ℕ → ℕ → List ℕ
put_row ws i r = sets ws (i * row_words) (words_of (as_row r))
