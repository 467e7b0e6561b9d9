-- A row by value, whatever the number of its words: it has no value from `width` on, and what its lowest and its highest value are.
-- Assumes nothing.
use Prim.Native.Nat.{ℕ, zero, ◌-◌, ◌/◌, ◌%◌, ◌^◌, ◌<◌, ◌≤◌}
use mathlib.Core.Path.{◌≡◌, sym, subst}
use mathlib.Core.Logic.{◌≢◌}
use mathlib.Core.Bool.{true}
use native.Mathlib.Nat.{zero-lt-suc, mod-lt, lt_of_lt_of_le}
use native.Mathlib.Omega.{arith}
use lib.Bits.{bit_xor}
use lib.Pow.{pow_mono}
use lib.Count.{ones, ones-le, count_trailing_zeros, count_leading_zeros}
use Rattle.sets.specs.declared.Row.{Row}
use Rattle.sets.specs.Limits.{word_bits}
use Rattle.sets.specs.Sets.{has, single, minus, below}
use Rattle.sets.specs.Rows.{row_words, width, words_of, bits, as_row, tag_of}
use Rattle.sets.proofs.Subsets.{without_less}
use Rattle.sets.proofs.ValuesBelow.{less_below}
use Rattle.sets.proofs.Extremes.{lowest_has, top_has, top_none}
use Rattle.sets.proofs.OneWord.{word_bits_lem, word_again}
use Rattle.sets.proofs.RowsInWords.{take_less}

pub bits_less : (r : Row) → bits r < 2 ^ width
unfolding bits words_of
bits_less r = take_less row_words (words_of r)

-- so it is within any column that has as many values
pub below_wide : (r : Row) (d : ℕ) → width ≤ d → below d (bits r) ≡ true
below_wide r d h = less_below d (bits r) (lt_of_lt_of_le (bits_less r) (pow_mono h))

-- a set that a row can hold is held by its row, and a row's set is the set of that very row
pub row-bits : (n : ℕ) → n < 2 ^ width → bits (as_row n) ≡ n
row-bits = word_bits_lem

pub row_again : (n : ℕ) → as_row (bits (as_row n)) ≡ as_row n
row_again = word_again

pub count-row : (r : Row) → ones (bits r) ≤ width
count-row r = ones-le width (bits r) (bits_less r)

pub tag_less : (r : ℕ) → tag_of r < 512
unfolding tag_of
tag_less r = let h = mod-lt (bit_xor (r / 2 ^ word_bits) (r % 2 ^ word_bits)) (zero-lt-suc 508) in omega (arith, h)

-- ---- the lowest value, where there is one

pub lowest_row : (r : Row) (v : ℕ) → v ≡ count_trailing_zeros width (bits r) → bits r ≢ zero → (v < width) × (has (bits r) v ≡ true)
lowest_row r v e ne = subst (λ (x : ℕ). (x < width) × (has (bits r) x ≡ true)) (sym e) (lowest_has width (bits r) (bits_less r) ne)

-- a walk through a row ends
pub rest_row : (r s : Row) → bits s ≡ minus (bits r) (single (count_trailing_zeros width (bits r))) → bits r ≢ zero → bits s < bits r
rest_row r s e ne =
    let low = lowest_has width (bits r) (bits_less r) ne in
    subst (λ (x : ℕ). x < bits r) (sym e) (without_less (bits r) (count_trailing_zeros width (bits r)) low.1)

-- ---- the highest value, where there is one

pub top_row : (r : Row) (n : ℕ) → n ≡ width - count_leading_zeros width (bits r) → n ≢ zero → (n - 1 < width) × (has (bits r) (n - 1) ≡ true)
top_row r n e ne = top_has width (bits r) n (bits_less r) e ne

pub top_row_none : (r : Row) (n : ℕ) → n ≡ width - count_leading_zeros width (bits r) → n ≡ zero → bits r ≡ zero
top_row_none r n e z = top_none width (bits r) n (bits_less r) e z
