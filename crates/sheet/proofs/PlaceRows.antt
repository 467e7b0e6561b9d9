-- The words that hold the places' sets: how many rows they are, and that rows closed up and put down in words are those rows. Assumes nothing.
use Prim.Native.Nat.{ℕ, zero, suc, ◌-◌, ◌*◌, ◌^◌, ◌≤◌, ◌<◌}
use mathlib.Core.Path.{◌≡◌, sym, ap, ◌∙◌}
use mathlib.Core.Bool.{Bool, true, false, cond}
use mathlib.Core.List.{List, [], ◌∷◌, ◌++◌}
use native.Mathlib.Nat.{lt_of_lt_of_le}
use native.Mathlib.Omega.{arith}
use lib.ListN.{length, take}
use lib.Pow.{pow_mono}
use lib.Seq.{take_at, take-take, length-take-le}
use Rattle.sets.specs.Limits.{most_places, most_values}
use Rattle.sets.specs.Sets.{within}
use Rattle.sets.specs.Rows.{row_words, width, rows_of, in_words, put_row}
use Rattle.sets.proofs.ValuesBelow.{within_less}
use Rattle.sets.proofs.LentRows.{rows_length, rows_end, rows_less, put_front, Narrow, narrow_append, narrow_zeros, rows_words}
use Rattle.theory.specs.Pairings.{at}
use Rattle.sheet.specs.Upto.{those}
use Rattle.sheet.specs.Changes.{padded}

pub place_rows : (ws : List ℕ) → length ws ≡ most_places * row_words → length (rows_of ws) ≡ most_places
place_rows ws e = omega (arith, rows_length ws)

-- a row within a column's values is one that words can hold
pub row_small : (d row : ℕ) → d ≤ most_values → within d row ≡ true → row < 2 ^ width
row_small d row h e = lt_of_lt_of_le (within_less d row e) (pow_mono {j = width} (omega arith))

-- the words before row i stay
pub put_before : (ws : List ℕ) (i r : ℕ) → i < length (rows_of ws) → take (i * row_words) (put_row ws i r) ≡ take (i * row_words) ws
put_before ws i r h =
    sym (take-take (i * row_words) (suc i * row_words) (put_row ws i r) (omega arith)) ∙ ap (take (i * row_words)) (put_front ws i r h)
    ∙ take_at (take (i * row_words) ws) (in_words (r ∷ [])) (i * row_words) (length-take-le (i * row_words) ws (rows_end ws i (omega arith)))

-- ---- rows closed up

narrow_step : (b : Bool) (l : List ℕ) (r : ℕ) → Narrow l → r < 2 ^ width → Narrow (l ++ cond b (r ∷ []) [])
narrow_step true l r n h = narrow_append l (r ∷ []) n (h, tt)
narrow_step false l r n h = narrow_append l [] n tt

narrow_those : (f : ℕ → Bool) (ws : List ℕ) (n : ℕ) → Narrow (those f (rows_of ws) n)
unfolding those
narrow_those f ws zero = tt
narrow_those f ws (suc n) = narrow_step (f n) (those f (rows_of ws) n) (at (rows_of ws) n) (narrow_those f ws n) (rows_less ws n)

pub rows_closed : (f : ℕ → Bool) (ws : List ℕ) (n : ℕ) → rows_of (in_words (padded (those f (rows_of ws) n))) ≡ padded (those f (rows_of ws) n)
unfolding padded
rows_closed f ws n =
    rows_words (padded (those f (rows_of ws) n))
    (narrow_append (those f (rows_of ws) n) _ (narrow_those f ws n) (narrow_zeros (most_places - length (those f (rows_of ws) n))))
