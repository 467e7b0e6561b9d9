-- The request's own file, by the definitions: 'File 50 56 54 00 01 04 00 03, then rows 3, 0 and 4 in 8 bytes each: .. One byte less: 25.' Wish 3:
-- 'The file case in 01 now gives 3, 15, 4.' Assumes nothing.
use Prim.Native.Nat.{ℕ}
use mathlib.Core.Path.{◌≡◌, refl}
use mathlib.Core.List.{List, [], ◌∷◌, ◌++◌}
use lib.ListN.{take}
use Rattle.std.specs.Prelude.{Ok}
use Rattle.sets.specs.Sets.{below}
use Rattle.refusals.specs.Cases.{decided}
use Rattle.files.specs.Bytes.{big}
use Rattle.files.specs.Rows.{list_to, lowest_to}
use Rattle.files.specs.Files.{cell_in, cells_in}
use Rattle.files.specs.FileCases.{front_cases, row_cases}
use Rattle.refusals.specs.Refusals.{number_of}
use Rattle.files.specs.Reading.{read_answer}

-- a row of one byte's value, in 8 bytes
row : ℕ → List ℕ
row n = 0 ∷ 0 ∷ 0 ∷ 0 ∷ 0 ∷ 0 ∷ 0 ∷ n ∷ []

pub request_file : List ℕ
request_file = 0x50 ∷ 0x56 ∷ 0x54 ∷ 0x00 ∷ 0x01 ∷ 0x04 ∷ 0x00 ∷ 0x03 ∷ [] ++ row 3 ++ row 0 ++ row 4

-- d is 4 and T is 3, into a list of 3 places
pub request_file_read : read_answer request_file 3 ≡ Ok (4, 3)
unfolding request_file row read_answer decided front_cases row_cases big below lowest_to
request_file_read = refl

pub request_file_rows : cells_in request_file ≡ 3 ∷ 15 ∷ 4 ∷ []
unfolding request_file row cell_in big list_to
request_file_rows = refl

pub one_byte_less : (places : ℕ) → number_of (read_answer (take 31 request_file) places) ≡ 25
unfolding request_file row read_answer decided front_cases row_cases big
one_byte_less places = refl
