-- Sets held in words act word by word, whatever the number of words: intersection, union and difference. Assumes nothing.
use Prim.Native.Nat.{ℕ, zero, ◌+◌, ◌/◌, ◌%◌, ◌^◌, ◌<◌}
use mathlib.Core.Path.{◌≡◌, refl, sym, ap, ap₂, ◌∙◌}
use mathlib.Core.List.{List, [], ◌∷◌}
use native.Mathlib.Nat.{mod-lt, mod-eq_of_lt, suc_inj, zero-add}
use native.Mathlib.Omega.{arith}
use lib.Bits.{bit_and, bit_or, bit_xor, and_block, or_block, xor_block, and_mod, or_mod, xor_mod}
use lib.ListN.{length}
use lib.Pow.{pow_pos, high, low}
use Rattle.sets.specs.Limits.{word_bits}
use Rattle.sets.specs.Sets.{minus, words}
use Rattle.sets.specs.Words.{bits_of}
use Rattle.sets.proofs.Words.{minus-words, words_less}

-- ---- one word

pub word_less : (w : ℕ) → w % 2 ^ word_bits < 2 ^ word_bits
word_less w = mod-lt w (pow_pos word_bits)

-- the low word alone, where the others have nothing
pub alone : (w : ℕ) (ws : List ℕ) → w < 2 ^ word_bits → bits_of ws ≡ zero → bits_of (w ∷ ws) ≡ w
unfolding bits_of
alone w ws h e = ap (λ (x : ℕ). words word_bits x (w % 2 ^ word_bits)) e ∙ zero-add (w % 2 ^ word_bits) ∙ mod-eq_of_lt h

pub one_word : (w : ℕ) → w < 2 ^ word_bits → bits_of (w ∷ []) ≡ w
unfolding bits_of
one_word w h = alone w [] h refl

-- ---- one word more

pub more_less : (w : ℕ) (ws : List ℕ) (m : ℕ) → bits_of ws < 2 ^ m → bits_of (w ∷ ws) < 2 ^ (word_bits + m)
unfolding bits_of
more_less w ws m h = words_less m word_bits (bits_of ws) (w % 2 ^ word_bits) h (word_less w)

-- the two parts of a set: the low word, and the other words
pub low_part : (w : ℕ) (ws : List ℕ) → w < 2 ^ word_bits → bits_of (w ∷ ws) % 2 ^ word_bits ≡ w
unfolding bits_of
low_part w ws h = low (bits_of ws) word_bits (word_less w) ∙ mod-eq_of_lt h

pub high_part : (w : ℕ) (ws : List ℕ) → bits_of (w ∷ ws) / 2 ^ word_bits ≡ bits_of ws
unfolding bits_of
high_part w ws = high (bits_of ws) word_bits (word_less w)

-- ---- word by word

abbrev pub wordwise : (ℕ → ℕ → ℕ) → List ℕ → List ℕ → List ℕ
wordwise op [] ys = []
wordwise op (x ∷ xs) [] = []
wordwise op (x ∷ xs) (y ∷ ys) = op x y ∷ wordwise op xs ys

-- an operation that goes digit by digit
module _ (op : ℕ → ℕ → ℕ) (none : op zero zero ≡ zero)
    (block : (k a b r s : ℕ) → r < 2 ^ k → s < 2 ^ k → op (words k a r) (words k b s) ≡ words k (op a b) (op r s))
    (ends : (a b k : ℕ) → op a b % 2 ^ k ≡ op (a % 2 ^ k) (b % 2 ^ k)) where
  op_bits : (xs ys : List ℕ) → length xs ≡ length ys → bits_of (wordwise op xs ys) ≡ op (bits_of xs) (bits_of ys)
  unfolding bits_of
  op_bits [] [] e = sym none
  op_bits [] (y ∷ ys) e = absurd (omega arith)
  op_bits (x ∷ xs) [] e = absurd (omega arith)
  op_bits (x ∷ xs) (y ∷ ys) e =
      ap₂ (words word_bits) (op_bits xs ys (suc_inj e)) (ends x y word_bits)
      ∙ sym (block word_bits (bits_of xs) (bits_of ys) (x % 2 ^ word_bits) (y % 2 ^ word_bits) (word_less x) (word_less y))

pub and-bits : (xs ys : List ℕ) → length xs ≡ length ys → bits_of (wordwise bit_and xs ys) ≡ bit_and (bits_of xs) (bits_of ys)
and-bits = op_bits bit_and refl and_block and_mod

pub or-bits : (xs ys : List ℕ) → length xs ≡ length ys → bits_of (wordwise bit_or xs ys) ≡ bit_or (bits_of xs) (bits_of ys)
or-bits = op_bits bit_or refl or_block or_mod

pub xor-bits : (xs ys : List ℕ) → length xs ≡ length ys → bits_of (wordwise bit_xor xs ys) ≡ bit_xor (bits_of xs) (bits_of ys)
xor-bits = op_bits bit_xor refl xor_block xor_mod

minus_ends : (a b k : ℕ) → minus a b % 2 ^ k ≡ minus (a % 2 ^ k) (b % 2 ^ k)
unfolding minus
minus_ends a b k = xor_mod a (bit_and a b) k ∙ ap (bit_xor (a % 2 ^ k)) (and_mod a b k)

pub minus-bits : (xs ys : List ℕ) → length xs ≡ length ys → bits_of (wordwise minus xs ys) ≡ minus (bits_of xs) (bits_of ys)
unfolding minus
minus-bits = op_bits minus refl minus-words minus_ends

-- the words fit, as those of a machine do
abbrev pub AreWords : List ℕ → Type 0
AreWords [] = Unit
AreWords (w ∷ ws) = (w < 2 ^ word_bits) × AreWords ws
