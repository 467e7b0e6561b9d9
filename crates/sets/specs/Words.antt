-- Sets held in words, low word first: word 0 has the lowest values, word 1 the next, and so on. No number of words is named here.
-- A word counts by its bits, so that every list of numbers is a set and no bound is owed.
use Rattle.std.specs.Prelude.{ℕ, zero, suc, ◌/◌, ◌%◌, ◌^◌, List, [], ◌∷◌, length, take, drop}
use Rattle.sets.specs.Limits.{word_bits}
use Rattle.sets.specs.Sets.{words}

-- the set that the words hold
unfoldable pub bits_of : List ℕ → ℕ
bits_of [] = zero
bits_of (w ∷ ws) = words word_bits (bits_of ws) (w % 2 ^ word_bits)

-- the first k rows of a list of words, n words to a row
unfoldable pub rows_from : ℕ → ℕ → List ℕ → List ℕ
rows_from n zero ws = []
rows_from n (suc k) ws = bits_of (take n ws) ∷ rows_from n k (drop n ws)

-- all its whole rows: words left over at the end, fewer than a row has, are no row
unfoldable pub rows_in : ℕ → List ℕ → List ℕ
rows_in n ws = rows_from n (length ws / n) ws
