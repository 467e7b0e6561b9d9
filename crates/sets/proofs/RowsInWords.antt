-- The rows of a list of words, n words to a row: how many, which, what a store of n words does to them, and the words that are no row.
-- Assumes nothing.
use Prim.Native.Nat.{ℕ, zero, suc, ◌+◌, ◌*◌, ◌/◌, ◌^◌, ◌<◌, ◌≤◌}
use mathlib.Core.Path.{◌≡◌, refl, sym, ap, ap₂, ◌∙◌, subst}
use mathlib.Core.List.{List, [], ◌∷◌, ◌++◌}
use native.Mathlib.Nat.{not-suc-le-zero, le_of_suc-le-suc, zero-mul, zero-add, suc-add, suc-mul, one-mul, mul-suc, add-suc, add_comm}
use native.Mathlib.Nat.{le-div_iff_mul-le, div-mul-le_self, div-eq_of_lt, mul-add-div_right, mul-div_cancel, div-one}
use native.Mathlib.Omega.{arith}
use lib.ListN.{length, get_or, take, drop, set, replicate, length-append, length-drop, length-replicate, take-append-drop, replicate-append-replicate}
use lib.Pow.{pow_pos}
use lib.Seq.{sets, length-sets, sets-eq, take_at, drop_at, take-append-le, drop-append-le}
use lib.Seq.{take-set-le, drop-set-add, drop-drop, drop-cons, length-take-le, take_all}
use Rattle.sets.specs.Limits.{word_bits}
use Rattle.sets.specs.Words.{bits_of, rows_from, rows_in}
use Rattle.sets.proofs.WordSets.{AreWords, more_less, one_word}

-- ---- a run of stores that starts further on

take_sets : (xs l : List ℕ) (n m : ℕ) → n ≤ m → take n (sets l m xs) ≡ take n l
take_sets [] l n m h = refl
take_sets (x ∷ xs) l n m h = take_sets xs (set l m x) n (suc m) (omega arith) ∙ take-set-le n l m x h

drop_sets : (xs l : List ℕ) (n m : ℕ) → drop n (sets l (n + m) xs) ≡ sets (drop n l) m xs
drop_sets [] l n m = refl
drop_sets (x ∷ xs) l n m =
    ap (λ (k : ℕ). drop n (sets (set l (n + m) x) k xs)) (sym (add-suc n m)) ∙ drop_sets xs (set l (n + m) x) n (suc m)
    ∙ ap (λ (r : List ℕ). sets r (suc m) xs) (drop-set-add n l m x)

-- n words from place j on
abbrev pub words_from : ℕ → List ℕ → ℕ → List ℕ
words_from zero ws j = []
words_from (suc n) ws j = get_or ws j 0 ∷ words_from n ws (suc j)

window : (n : ℕ) (ws : List ℕ) (j : ℕ) → j + n ≤ length ws → take n (drop j ws) ≡ words_from n ws j
window zero ws j h = refl
window (suc n) ws j h =
    ap (take (suc n)) (drop-cons ws j 0 (omega arith)) ∙ ap (λ (r : List ℕ). get_or ws j 0 ∷ r) (window n ws (suc j) (omega arith))

-- ---- the first k rows

pub take_less : (n : ℕ) (ws : List ℕ) → bits_of (take n ws) < 2 ^ (word_bits * n)
unfolding bits_of
take_less zero ws = pow_pos (word_bits * zero)
take_less (suc n) [] = pow_pos (word_bits * suc n)
take_less (suc n) (w ∷ ws) =
    subst (λ (x : ℕ). bits_of (w ∷ take n ws) < 2 ^ x) (sym (mul-suc word_bits n ∙ add_comm (word_bits * n) word_bits))
    (more_less w (take n ws) (word_bits * n) (take_less n ws))

module _ (n : ℕ) where
  pub from_length : (k : ℕ) (ws : List ℕ) → length (rows_from n k ws) ≡ k
  unfolding rows_from
  from_length zero ws = refl
  from_length (suc k) ws = ap suc (from_length k (drop n ws))

  pub from_at : (k i : ℕ) (ws : List ℕ) → i < k → get_or (rows_from n k ws) i 0 ≡ bits_of (take n (drop (i * n) ws))
  unfolding rows_from
  from_at zero i ws h = absurd (not-suc-le-zero h)
  from_at (suc k) zero ws h = ap (λ (x : ℕ). bits_of (take n (drop x ws))) (sym (zero-mul n))
  from_at (suc k) (suc i) ws h =
      from_at k i (drop n ws) (le_of_suc-le-suc h)
      ∙ ap (λ (r : List ℕ). bits_of (take n r)) (drop-drop (i * n) n ws ∙ ap (λ (x : ℕ). drop x ws) (add_comm n (i * n) ∙ sym (suc-mul i n)))

  pub from_less : (k i : ℕ) (ws : List ℕ) → get_or (rows_from n k ws) i 0 < 2 ^ (word_bits * n)
  unfolding rows_from
  from_less zero i ws = pow_pos (word_bits * n)
  from_less (suc k) zero ws = take_less n ws
  from_less (suc k) (suc i) ws = from_less k i (drop n ws)

  pub from_put : (k i : ℕ) (ws xs : List ℕ) → i < k → k * n ≤ length ws → length xs ≡ n
      → rows_from n k (sets ws (i * n) xs) ≡ set (rows_from n k ws) i (bits_of xs)
  unfolding rows_from
  from_put zero i ws xs h room e = absurd (not-suc-le-zero h)
  from_put (suc k) zero ws xs h room e =
      ap₂ (λ (a b : List ℕ). bits_of a ∷ rows_from n k b) (ap (take n) is ∙ take_at xs (drop n ws) n e) (ap (drop n) is ∙ drop_at xs (drop n ws) n e)
    where
      is : sets ws (zero * n) xs ≡ xs ++ drop n ws
      is =
          ap (λ (x : ℕ). sets ws x xs) (zero-mul n) ∙ sets-eq xs ws zero (omega (arith, suc-mul k n))
          ∙ ap (λ (x : ℕ). xs ++ drop x ws) (zero-add (length xs) ∙ e)
  from_put (suc k) (suc i) ws xs h room e =
      ap (λ (x : ℕ). rows_from n (suc k) (sets ws x xs)) (suc-mul i n ∙ add_comm (i * n) n)
      ∙ ap₂ (λ (a b : List ℕ). bits_of a ∷ rows_from n k b) (take_sets xs ws n (n + i * n) (omega arith)) (drop_sets xs ws n (i * n))
      ∙ ap (λ (r : List ℕ). bits_of (take n ws) ∷ r)
      (from_put k i (drop n ws) xs (le_of_suc-le-suc h) (omega (arith, suc-mul k n, length-drop n ws)) e)

  pub from_append : (k j : ℕ) (ws vs : List ℕ) → length ws ≡ k * n → rows_from n (k + j) (ws ++ vs) ≡ rows_from n k ws ++ rows_from n j vs
  unfolding rows_from
  from_append zero j [] vs e = ap (λ (x : ℕ). rows_from n x vs) (zero-add j)
  from_append zero j (w ∷ ws) vs e = absurd (omega (arith, zero-mul n))
  from_append (suc k) j ws vs e =
      let room : n ≤ length ws = omega (arith, suc-mul k n) in
      ap (λ (x : ℕ). rows_from n x (ws ++ vs)) (suc-add k j)
      ∙ ap₂ (λ (a b : List ℕ). bits_of a ∷ rows_from n (k + j) b) (take-append-le n ws vs room) (drop-append-le n ws vs room)
      ∙ ap (λ (r : List ℕ). bits_of (take n ws) ∷ r) (from_append k j (drop n ws) vs (omega (arith, suc-mul k n, length-drop n ws)))

-- ---- all rows

module _ (n : ℕ) (some : 0 < n) where
  pub in_length : (ws : List ℕ) → length (rows_in n ws) ≡ length ws / n
  unfolding rows_in
  in_length ws = from_length n (length ws / n) ws

  -- the words of k rows are there, and so are those of row i
  pub in_end : (ws : List ℕ) (k : ℕ) → k ≤ length (rows_in n ws) → k * n ≤ length ws
  in_end ws k h = (le-div_iff_mul-le some).0 (subst (λ (x : ℕ). k ≤ x) (in_length ws) h)

  pub in_room : (ws : List ℕ) (i : ℕ) → i < length (rows_in n ws) → i * n + n ≤ length ws
  in_room ws i h = let here : suc i * n ≤ length ws = in_end ws (suc i) h in omega (arith, suc-mul i n)

  pub in_at : (ws : List ℕ) (i : ℕ) → i < length (rows_in n ws) → get_or (rows_in n ws) i 0 ≡ bits_of (words_from n ws (i * n))
  unfolding rows_in
  in_at ws i h =
      from_at n (length ws / n) i ws (subst (λ (x : ℕ). i < x) (in_length ws) h) ∙ ap bits_of (window n ws (i * n) (in_room ws i h))

  pub in_less : (ws : List ℕ) (i : ℕ) → get_or (rows_in n ws) i 0 < 2 ^ (word_bits * n)
  unfolding rows_in
  in_less ws i = from_less n (length ws / n) i ws

  pub in_put : (ws xs : List ℕ) (i : ℕ) → i < length (rows_in n ws) → length xs ≡ n
      → rows_in n (sets ws (i * n) xs) ≡ set (rows_in n ws) i (bits_of xs)
  unfolding rows_in
  in_put ws xs i h e =
      ap (λ (x : ℕ). rows_from n (x / n) (sets ws (i * n) xs)) (length-sets ws (i * n) xs)
      ∙ from_put n (length ws / n) i ws xs (subst (λ (x : ℕ). i < x) (in_length ws) h) (div-mul-le_self (length ws) n) e

  -- whole rows, and then others
  pub in_append : (k : ℕ) (ws vs : List ℕ) → length ws ≡ k * n → rows_in n (ws ++ vs) ≡ rows_in n ws ++ rows_in n vs
  unfolding rows_in
  in_append k ws vs e =
      let long : length (ws ++ vs) ≡ k * n + length vs = length-append ws vs ∙ ap (λ (x : ℕ). x + length vs) e in
      ap (λ (x : ℕ). rows_from n x (ws ++ vs)) (ap (λ (x : ℕ). x / n) long ∙ mul-add-div_right some k (length vs))
      ∙ from_append n k (length vs / n) ws vs e
      ∙ ap (λ (x : ℕ). rows_from n x ws ++ rows_from n (length vs / n) vs) (sym (ap (λ (x : ℕ). x / n) e ∙ mul-div_cancel k some))

  -- the words of one row
  pub in_single : (ws : List ℕ) → length ws ≡ n → rows_in n ws ≡ bits_of ws ∷ []
  unfolding rows_in rows_from
  in_single ws e =
      ap (λ (x : ℕ). rows_from n x ws) (ap (λ (x : ℕ). x / n) (e ∙ sym (one-mul n)) ∙ mul-div_cancel 1 some)
      ∙ ap (λ (l : List ℕ). bits_of l ∷ []) (take_all n ws (omega (arith, e)))

  -- words that are too few for a row are none
  pub in_few : (ws : List ℕ) → length ws < n → rows_in n ws ≡ []
  unfolding rows_in rows_from
  in_few ws h = ap (λ (x : ℕ). rows_from n x ws) (div-eq_of_lt h)

  -- the first k rows, and the others
  module _ (k : ℕ) (ws : List ℕ) (h : k ≤ length (rows_in n ws)) where
    front_length : length (take (k * n) ws) ≡ k * n
    front_length = length-take-le (k * n) ws (in_end ws k h)

    pub in_front : length (rows_in n (take (k * n) ws)) ≡ k
    in_front = in_length (take (k * n) ws) ∙ ap (λ (x : ℕ). x / n) front_length ∙ mul-div_cancel k some

    parted : rows_in n ws ≡ rows_in n (take (k * n) ws) ++ rows_in n (drop (k * n) ws)
    parted = ap (rows_in n) (sym (take-append-drop (k * n) ws)) ∙ in_append k (take (k * n) ws) (drop (k * n) ws) front_length

    pub in_take : rows_in n (take (k * n) ws) ≡ take k (rows_in n ws)
    in_take = sym (ap (take k) parted ∙ take_at (rows_in n (take (k * n) ws)) (rows_in n (drop (k * n) ws)) k in_front)

    pub in_drop : rows_in n (drop (k * n) ws) ≡ drop k (rows_in n ws)
    in_drop = sym (ap (drop k) parted ∙ drop_at (rows_in n (take (k * n) ws)) (rows_in n (drop (k * n) ws)) k in_front)

  -- words that are all zero are empty rows
  pub in_zero : (k : ℕ) → rows_in n (replicate (k * n) 0) ≡ replicate k 0
  unfolding rows_in rows_from bits_of
  in_zero k = ap (λ (x : ℕ). rows_from n x (replicate (k * n) 0)) (ap (λ (x : ℕ). x / n) (length-replicate (k * n) 0) ∙ mul-div_cancel k some) ∙ go k
    where
      zeros : ℕ → List ℕ
      zeros m = replicate m 0

      split : (k : ℕ) → zeros (suc k * n) ≡ zeros n ++ zeros (k * n)
      split k = ap zeros (suc-mul k n ∙ add_comm (k * n) n) ∙ sym (replicate-append-replicate n (k * n) 0)

      nothing : (m : ℕ) → bits_of (zeros m) ≡ zero
      nothing zero = refl
      nothing (suc m) = ap (λ (x : ℕ). x * 2 ^ word_bits + zero) (nothing m)

      go : (k : ℕ) → rows_from n k (zeros (k * n)) ≡ zeros k
      go zero = refl
      go (suc k) =
          ap₂ (λ (a b : List ℕ). bits_of a ∷ rows_from n k b)
          (ap (take n) (split k) ∙ take_at (zeros n) (zeros (k * n)) n (length-replicate n 0))
          (ap (drop n) (split k) ∙ drop_at (zeros n) (zeros (k * n)) n (length-replicate n 0))
          ∙ ap₂ (λ (x : ℕ) (r : List ℕ). x ∷ r) (nothing n) (go k)

-- ---- one word to a row: the rows are the words

from_one : (ws : List ℕ) → AreWords ws → rows_from 1 (length ws) ws ≡ ws
unfolding rows_from
from_one [] h = refl
from_one (w ∷ ws) h = ap₂ (λ (x : ℕ) (r : List ℕ). x ∷ r) (one_word w h.0) (from_one ws h.1)

pub in_one : (ws : List ℕ) → AreWords ws → rows_in 1 ws ≡ ws
unfolding rows_in
in_one ws h = ap (λ (x : ℕ). rows_from 1 x ws) (div-one (length ws)) ∙ from_one ws h
