-- The limits of the request, each under its one name. The code has them as constants of `Sheet`, which a contract can't name.
use Rattle.std.specs.Prelude.{ℕ, ◌+◌}

-- 'd from 1 to 64'
abbrev pub most_values : ℕ
most_values = 64

-- 'A table is a list of 0 to 256 rows.'
abbrev pub most_rows : ℕ
most_rows = 256

-- 'One sheet serves 1 to 32 desks'
abbrev pub most_desks : ℕ
most_desks = 32

-- 'one list of at most 512 inserted rows'
abbrev pub most_places : ℕ
most_places = 512

-- 'Owed is the sum, over all desks, of 8 minus the rows held'
abbrev pub promised : ℕ
promised = 8

-- 'no desk holds over 64'
abbrev pub most_held : ℕ
most_held = 64

-- so a view has no more than 320 rows
abbrev pub most_in_view : ℕ
most_in_view = most_rows + most_held

-- no limit of the request: how many bits a word of lent memory has (`sets::BITS` in the code)
abbrev pub word_bits : ℕ
word_bits = 64
