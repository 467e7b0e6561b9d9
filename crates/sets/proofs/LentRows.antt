-- The rows of lent words, whatever the number of words to a row: how many, what a store does to them, parts of them, and words that are no row.
-- Assumes nothing.
use Prim.Native.Nat.{ℕ, zero, suc, ◌+◌, ◌*◌, ◌/◌, ◌^◌, ◌<◌, ◌≤◌, suc-le-suc}
use mathlib.Core.Path.{◌≡◌, refl, sym, ap, ap₂, ◌∙◌}
use mathlib.Core.List.{List, [], ◌∷◌, ◌++◌, append-nil, append_assoc}
use native.Mathlib.Nat.{zero-lt-suc, not-suc-le-zero, le_of_suc-le-suc, zero-mul, one-mul, suc-mul, add_comm}
use native.Mathlib.Omega.{arith}
use lib.ListN.{length, get_or, take, drop, set, replicate, length-append, length-replicate, replicate-append-replicate}
use lib.Pow.{pow_pos}
use lib.Seq.{length-sets, sets-eq, take_at, length-take-le, drop_at}
use Rattle.sets.specs.declared.Row.{Row}
use Rattle.sets.specs.Words.{bits_of, rows_in}
use Rattle.sets.specs.Rows.{row_words, width, words_of, bits, as_row, rows_of, in_words, put_row}
use Rattle.sets.proofs.RowsInWords.{words_from, in_length, in_end, in_room, in_at, in_less, in_put, in_single}
use Rattle.sets.proofs.RowsInWords.{in_append, in_few, in_front, in_take, in_drop, in_zero}
use Rattle.sets.proofs.RowValues.{bits_less, row-bits}
use Rattle.sets.proofs.OneWord.{words_of-length, words_of-zero}

-- a row has words
some : 0 < row_words
some = zero-lt-suc _

-- ---- the rows of lent words

pub rows_length : (ws : List ℕ) → length (rows_of ws) ≡ length ws / row_words
unfolding rows_of
rows_length = in_length row_words some

pub rows_as_long : (ws vs : List ℕ) → length ws ≡ length vs → length (rows_of ws) ≡ length (rows_of vs)
rows_as_long ws vs e = rows_length ws ∙ ap (λ (n : ℕ). n / row_words) e ∙ sym (rows_length vs)

pub rows_end : (ws : List ℕ) (k : ℕ) → k ≤ length (rows_of ws) → k * row_words ≤ length ws
unfolding rows_of
rows_end = in_end row_words some

pub rows_room : (ws : List ℕ) (i : ℕ) → i < length (rows_of ws) → i * row_words + row_words ≤ length ws
unfolding rows_of
rows_room = in_room row_words some

pub rows_less : (ws : List ℕ) (i : ℕ) → get_or (rows_of ws) i 0 < 2 ^ width
unfolding rows_of
rows_less = in_less row_words some

pub rows_at : (ws : List ℕ) (i : ℕ) → i < length (rows_of ws) → get_or (rows_of ws) i 0 ≡ bits_of (words_from row_words ws (i * row_words))
unfolding rows_of
rows_at = in_at row_words some

-- ---- a row stored

pub put_length : (ws : List ℕ) (i r : ℕ) → length (put_row ws i r) ≡ length ws
unfolding put_row
put_length ws i r = length-sets ws (i * row_words) (words_of (as_row r))

pub rows_put : (ws : List ℕ) (i r : ℕ) → i < length (rows_of ws) → r < 2 ^ width → rows_of (put_row ws i r) ≡ set (rows_of ws) i r
unfolding rows_of put_row bits
rows_put ws i r h small =
    in_put row_words some ws (words_of (as_row r)) i h (words_of-length (as_row r)) ∙ ap (set (rows_in row_words ws) i) (row-bits r small)

-- the same of what the code has in hand
pub rows_stored : (ws ws' : List ℕ) (i : ℕ) (r : Row) → ws' ≡ put_row ws i (bits r) → i < length (rows_of ws)
    → (length ws' ≡ length ws) × (rows_of ws' ≡ set (rows_of ws) i (bits r))
rows_stored ws ws' i r e h = (ap length e ∙ put_length ws i (bits r), ap rows_of e ∙ rows_put ws i (bits r) h (bits_less r))

-- the words before row i stay, then come those of the row, then the words that stood behind
module _ (ws : List ℕ) (i r : ℕ) (h : i < length (rows_of ws)) where
  room : suc i * row_words ≤ length ws
  room = rows_end ws (suc i) h

  size : i * row_words + length (words_of (as_row r)) ≡ suc i * row_words
  size = ap (λ (n : ℕ). i * row_words + n) (words_of-length (as_row r)) ∙ sym (suc-mul i row_words)

  pub put_parts : put_row ws i r ≡ take (i * row_words) ws ++ in_words (r ∷ []) ++ drop (suc i * row_words) ws
  unfolding put_row in_words
  put_parts =
      sets-eq (words_of (as_row r)) ws (i * row_words) (omega (arith, room, size))
      ∙ ap₂ (λ (l : List ℕ) (n : ℕ). take (i * row_words) ws ++ l ++ drop n ws) (sym (append-nil (words_of (as_row r)))) size

  front_length : length (take (i * row_words) ws ++ in_words (r ∷ [])) ≡ suc i * row_words
  unfolding in_words
  front_length =
      length-append (take (i * row_words) ws) (words_of (as_row r) ++ [])
      ∙ ap₂ (λ (m n : ℕ). m + n) (length-take-le (i * row_words) ws (rows_end ws i (omega (arith, h)))) (ap length (append-nil (words_of (as_row r))))
      ∙ size

  pub put_front : take (suc i * row_words) (put_row ws i r) ≡ take (i * row_words) ws ++ in_words (r ∷ [])
  put_front =
      ap (take (suc i * row_words)) put_parts
      ∙ take_at (take (i * row_words) ws ++ in_words (r ∷ [])) (drop (suc i * row_words) ws) (suc i * row_words) front_length

  pub put_rest : drop (suc i * row_words) (put_row ws i r) ≡ drop (suc i * row_words) ws
  put_rest =
      ap (drop (suc i * row_words)) put_parts
      ∙ drop_at (take (i * row_words) ws ++ in_words (r ∷ [])) (drop (suc i * row_words) ws) (suc i * row_words) front_length

-- ---- parts of lent words

pub rows_append : (k : ℕ) (ws vs : List ℕ) → length ws ≡ k * row_words → rows_of (ws ++ vs) ≡ rows_of ws ++ rows_of vs
unfolding rows_of
rows_append = in_append row_words some

pub rows_few : (ws : List ℕ) → length ws < row_words → rows_of ws ≡ []
unfolding rows_of
rows_few = in_few row_words some

pub rows_front : (k : ℕ) (ws : List ℕ) → k ≤ length (rows_of ws) → length (rows_of (take (k * row_words) ws)) ≡ k
unfolding rows_of
rows_front = in_front row_words some

pub rows_take : (k : ℕ) (ws : List ℕ) → k ≤ length (rows_of ws) → rows_of (take (k * row_words) ws) ≡ take k (rows_of ws)
unfolding rows_of
rows_take = in_take row_words some

pub rows_drop : (k : ℕ) (ws : List ℕ) → k ≤ length (rows_of ws) → rows_of (drop (k * row_words) ws) ≡ drop k (rows_of ws)
unfolding rows_of
rows_drop = in_drop row_words some

pub rows_zero : (k : ℕ) → rows_of (replicate (k * row_words) 0) ≡ replicate k 0
unfolding rows_of
rows_zero = in_zero row_words some

pub rows_zero-length : (k : ℕ) → length (rows_of (replicate (k * row_words) 0)) ≡ k
rows_zero-length k = ap length (rows_zero k) ∙ length-replicate k zero

-- ---- words for rows

pub words-length : (rows : List ℕ) → length (in_words rows) ≡ length rows * row_words
unfolding in_words
words-length [] = sym (zero-mul row_words)
words-length (r ∷ rows) =
    length-append (words_of (as_row r)) (in_words rows)
    ∙ omega (arith, words_of-length (as_row r), words-length rows, suc-mul (length rows) row_words)

pub words_append : (xs bs : List ℕ) → in_words (xs ++ bs) ≡ in_words xs ++ in_words bs
unfolding in_words
words_append [] bs = refl
words_append (r ∷ xs) bs =
    ap (λ (l : List ℕ). words_of (as_row r) ++ l) (words_append xs bs) ∙ sym (append_assoc (words_of (as_row r)) (in_words xs) (in_words bs))

pub words_zeros : (k : ℕ) → in_words (replicate k 0) ≡ replicate (k * row_words) 0
unfolding in_words
words_zeros zero = ap (λ (x : ℕ). replicate x 0) (sym (zero-mul row_words))
words_zeros (suc k) =
    ap₂ (λ (a b : List ℕ). a ++ b) words_of-zero (words_zeros k) ∙ replicate-append-replicate row_words (k * row_words) 0
    ∙ ap (λ (x : ℕ). replicate x 0) (add_comm row_words (k * row_words) ∙ sym (suc-mul k row_words))

-- each is a row: it has no value from `width` on
abbrev pub Narrow : List ℕ → Type 0
Narrow [] = Unit {0}
Narrow (r ∷ rows) = (r < 2 ^ width) × Narrow rows

pub narrow_each : (rows : List ℕ) → ((i : ℕ) → i < length rows → get_or rows i 0 < 2 ^ width) → Narrow rows
narrow_each [] p = tt
narrow_each (r ∷ rows) p = (p zero (zero-lt-suc (length rows)), narrow_each rows (λ i h. p (suc i) (suc-le-suc h)))

pub narrow_append : (xs bs : List ℕ) → Narrow xs → Narrow bs → Narrow (xs ++ bs)
narrow_append [] bs p q = q
narrow_append (r ∷ xs) bs p q = (p.0, narrow_append xs bs p.1 q)

pub narrow_zeros : (k : ℕ) → Narrow (replicate k 0)
narrow_zeros zero = tt
narrow_zeros (suc k) = (pow_pos width, narrow_zeros k)

-- one row's words are that row
rows_one : (r : Row) → rows_of (words_of r) ≡ bits r ∷ []
unfolding rows_of bits
rows_one r = in_single row_words some (words_of r) (words_of-length r)

pub rows_words : (rows : List ℕ) → Narrow rows → rows_of (in_words rows) ≡ rows
unfolding in_words
rows_words [] n = rows_few [] some
rows_words (r ∷ rows) n =
    rows_append 1 (words_of (as_row r)) (in_words rows) (words_of-length (as_row r) ∙ sym (one-mul row_words))
    ∙ ap₂ (λ (a b : List ℕ). a ++ b) (rows_one (as_row r) ∙ ap (λ (x : ℕ). x ∷ []) (row-bits r n.0)) (rows_words rows n.1)

-- the row at a place of such words, whatever stands behind them
words_apart : (r : ℕ) (rows vs : List ℕ) → rows_of (in_words (r ∷ rows) ++ vs) ≡ bits (as_row r) ∷ rows_of (in_words rows ++ vs)
unfolding in_words
words_apart r rows vs =
    ap rows_of (append_assoc (words_of (as_row r)) (in_words rows) vs)
    ∙ rows_append 1 (words_of (as_row r)) (in_words rows ++ vs) (words_of-length (as_row r) ∙ sym (one-mul row_words))
    ∙ ap (λ (l : List ℕ). l ++ rows_of (in_words rows ++ vs)) (rows_one (as_row r))

pub words-at : (rows vs : List ℕ) (i : ℕ) → i < length rows → get_or (rows_of (in_words rows ++ vs)) i 0 ≡ bits (as_row (get_or rows i 0))
words-at [] vs i h = absurd (not-suc-le-zero h)
words-at (r ∷ rows) vs zero h = ap (λ (l : List ℕ). get_or l zero 0) (words_apart r rows vs)
words-at (r ∷ rows) vs (suc i) h = ap (λ (l : List ℕ). get_or l (suc i) 0) (words_apart r rows vs) ∙ words-at rows vs i (le_of_suc-le-suc h)
