-- Numbers in bytes.
use Rattle.std.specs.Prelude.{ℕ, zero, suc, ◌+◌, ◌*◌, ◌/◌, ◌%◌, List, [], ◌∷◌, ◌++◌, get_or}
use Rattle.std.proofs.Common.{Fits}
use Rattle.std.specs.Int.{w8}

-- 'All numbers are big-endian.' The number in the n bytes from a place on
unfoldable pub big : List ℕ → ℕ → ℕ → ℕ
big file from zero = zero
big file from (suc n) = big file from n * 256 + get_or file (from + n) zero

-- and the n bytes of a number, which `big` reads again
unfoldable pub in_bytes : ℕ → ℕ → List ℕ
in_bytes zero value = []
in_bytes (suc n) value = in_bytes n (value / 256) ++ (value % 256 ∷ [])

-- what lent bytes are, in the words of the logic: numbers that a `u8` can hold
abbrev pub AreBytes : List ℕ → Type 0
AreBytes file = (i : ℕ) → Fits w8 (get_or file i zero)
