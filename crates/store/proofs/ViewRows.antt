-- Every row of a view is within d where those of the table and of the places are. Assumes nothing.
use Prim.Native.Nat.{ℕ, zero, suc, ◌<◌, suc-le-suc}
use mathlib.Core.Path.{◌≡◌}
use mathlib.Core.Bool.{Bool, true, false, cond, not}
use mathlib.Core.List.{List, [], ◌∷◌, ◌++◌}
use native.Mathlib.Nat.{not-suc-le-zero, le_of_suc-le-suc, zero-lt-suc}
use native.Mathlib.Omega.{arith}
use lib.ListN.{length}
use Rattle.theory.specs.Pairings.{at}
use Rattle.sets.specs.Sets.{within}
use Rattle.sets.proofs.BadRows.{AllWithin}
use Rattle.sheet.specs.Upto.{those}
use Rattle.store.specs.Desks.{view}

within_both : (d : ℕ) (xs ys : List ℕ) → AllWithin d xs → AllWithin d ys → AllWithin d (xs ++ ys)
within_both d [] ys p q = q
within_both d (x ∷ xs) ys p q = first (within_both d xs ys (λ j l. p (suc j) (suc-le-suc l)) q)
  where
    first : AllWithin d (xs ++ ys) → AllWithin d (x ∷ (xs ++ ys))
    first r zero h = p zero (zero-lt-suc (length xs))
    first r (suc i) h = r i (le_of_suc-le-suc h)

within_one : (d x : ℕ) (b : Bool) → within d x ≡ true → AllWithin d (cond b (x ∷ []) [])
within_one d x true e zero h = e
within_one d x true e (suc i) h = absurd (not-suc-le-zero (le_of_suc-le-suc h))
within_one d x false e zero h = absurd (not-suc-le-zero h)
within_one d x false e (suc i) h = absurd (not-suc-le-zero h)

pub within-those : (d : ℕ) (f : ℕ → Bool) (rows : List ℕ) (n : ℕ) → ((i : ℕ) → i < n → within d (at rows i) ≡ true) → AllWithin d (those f rows n)
unfolding those
within-those d f rows zero p = λ i h. absurd (not-suc-le-zero h)
within-those d f rows (suc n) p =
    within_both d (those f rows n) (cond (f n) (at rows n ∷ []) [])
    (within-those d f rows n (λ i h. p i (omega arith)))
    (within_one d (at rows n) (f n) (p n (omega arith)))

pub within-view : (d : ℕ) (table : List ℕ) (hid : ℕ → Bool) (own : List ℕ) → AllWithin d table → AllWithin d own → AllWithin d (view table hid own)
unfolding view
within-view d table hid own p q =
    within_both d (those (λ i. not (hid i)) table (length table)) own
    (within-those d (λ i. not (hid i)) table (length table) p) q
