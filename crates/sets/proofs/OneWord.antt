-- A row of one word, as a set, is that word: all that the proofs of `sets` need of how many words a row has. Assumes nothing.
use Prim.Native.Nat.{ℕ, zero, ◌%◌, ◌^◌, ◌<◌}
use mathlib.Core.Path.{◌≡◌, refl, sym, ap, ◌∙◌}
use native.Mathlib.Nat.{mod-eq_of_lt}
use mathlib.Core.List.{List}
use mir.Syntax.{w64}
use mir.Val.{Fits}
use lib.ListN.{length, replicate}
use Rattle.sets.specs.declared.Row.{Row}
use Rattle.sets.specs.Limits.{word_bits}
use Rattle.sets.specs.Rows.{row_words, width, words_of, bits, as_row, rows_of}
use Rattle.sets.proofs.WordSets.{one_word, word_less, AreWords}
use Rattle.sets.proofs.RowsInWords.{in_one}

pub bits_is : (r : Row) → Fits w64 r.low × Unit {0} → bits r ≡ r.low
unfolding bits words_of
bits_is r h = one_word r.low h.0.fits

pub words_of-length : (r : Row) → length (words_of r) ≡ row_words
unfolding words_of
words_of-length r = refl

pub words_of-zero : words_of (as_row zero) ≡ replicate row_words 0
unfolding words_of as_row
words_of-zero = refl

in_row : (n : ℕ) → bits (as_row n) ≡ n % 2 ^ word_bits
unfolding bits words_of as_row
in_row n = one_word (n % 2 ^ word_bits) (word_less n)

-- a set that a row can hold is held by its row
pub word_bits_lem : (n : ℕ) → n < 2 ^ width → bits (as_row n) ≡ n
word_bits_lem n h = in_row n ∙ mod-eq_of_lt h

row_made : {a b : ℕ} → a ≡ b → ◌≡◌ {A = Row} (record { low = a }) (record { low = b })
row_made e = λ i. record { low = e i }

-- the row that a machine holds is the row of its set
pub row_is : (r : Row) → r.low < 2 ^ word_bits → r ≡ as_row r.low
unfolding as_row
row_is r h = row_made (sym (mod-eq_of_lt h))

cut_row : (n : ℕ) → as_row (n % 2 ^ word_bits) ≡ as_row n
unfolding as_row
cut_row n = row_made (mod-eq_of_lt (word_less n))

-- a row's set is the set of that very row
pub word_again : (n : ℕ) → as_row (bits (as_row n)) ≡ as_row n
word_again n = ap as_row (in_row n) ∙ cut_row n

-- the rows of words that a machine holds are those words, in their order
pub rows_are_words : (ws : List ℕ) → AreWords ws → rows_of ws ≡ ws
unfolding rows_of
rows_are_words = in_one
