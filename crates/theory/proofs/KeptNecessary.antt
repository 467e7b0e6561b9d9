-- Demand 2 in the paper's words: the rows that DISTINCT leaves out are redundant with respect to those that it keeps,
-- and each of these is necessary among them. Assumes nothing.
use Prim.Native.Nat.{ℕ, zero, suc, ◌+◌, ◌<◌}
use mathlib.Core.Path.{◌≡◌, subst}
use mathlib.Core.Logic.Iff
use mathlib.Core.Logic.{inl, inr}
use mathlib.Core.List.Memᴰ
use mathlib.Core.List.{List, [], ◌∷◌, Memᴰ}
use native.Mathlib.Nat.{not-suc-le-zero, le_of_suc-le-suc}
use native.Mathlib.Omega.{arith}
use lib.ListN.{length, length-map}
use Rattle.theory.specs.Pairings.{at}
use Rattle.theory.specs.Family.{SameFamily, Rows}
use Rattle.theory.specs.Kept.{marks, kept, rows_at}
use Rattle.theory.specs.Necessary.{Redundant, all_but, Necessary}
use Rattle.theory.proofs.KeptFamily.{kept-family}
use Rattle.theory.proofs.KeptFewest.{kept-fewest}
use Rattle.theory.proofs.KeptRows.{kept_rows}
use Rattle.theory.proofs.Marks.{pick-view}

-- ---- a list without one of its rows

length_but : (i : ℕ) (rows : List ℕ) → i < length rows → length (all_but i rows) + 1 ≡ length rows
length_but i [] h = absurd (not-suc-le-zero h)
length_but zero (r ∷ rows) h = omega arith
length_but (suc i) (r ∷ rows) h = omega (arith, length_but i rows (le_of_suc-le-suc h))

but_in : (i : ℕ) (rows : List ℕ) (r : ℕ) → Memᴰ r (all_but i rows) → Memᴰ r rows
but_in zero [] r m = m
but_in (suc i) [] r m = m
but_in zero (q ∷ rows) r m = Memᴰ.tail m
but_in (suc i) (q ∷ rows) r m = elim (Memᴰ.cases_cons m) [ inl e ↦ Memᴰ.head e | inr k ↦ Memᴰ.tail (but_in i rows r k) ]

-- ---- what is left out, and what is kept

-- 'That is, Φ* = Φ - Φ** is redundant in Φ with respect to Φ**.'
pub dropped_redundant : (d : ℕ) (view : List ℕ) → Redundant d (marks d view) view
dropped_redundant d view = subst (SameFamily d view) (kept_rows d view) (kept-family d view)

-- without it the kept rows would be a shorter list with the view's family
pub kept-necessary : (d : ℕ) (view : List ℕ) → Rows d view → (i : ℕ) → i < length (kept d view) → Necessary d (rows_at view (kept d view)) i
kept-necessary d view G i h same =
    omega (
      arith,
      long,
      length_but i keeps (omega (arith, long)),
      kept-fewest d view (all_but i keeps) G fewer (λ s. Iff.trans (kept-family d view s) (same s)),
    )
  where
    keeps : List ℕ
    keeps = rows_at view (kept d view)

    long : length keeps ≡ length (kept d view)
    long = length-map (kept d view) (at view)

    fewer : Rows d (all_but i keeps)
    fewer r m = G r (pick-view (marks d view) view r (subst (Memᴰ r) (kept_rows d view) (but_in i keeps r m)))
