-- Demand 2, second half: no list of rows with the view's family is shorter than the kept rows;
-- and the request's bounds on their number. Assumes nothing.
use Prim.Native.Nat.{ℕ, ◌+◌, ◌≤◌}
use mathlib.Core.List.{List}
use native.Mathlib.Omega.{arith}
use lib.ListN.{length}
use Rattle.theory.specs.Family.{SameFamily, Rows}
use Rattle.theory.specs.Kept.{firsts, minimals, kept}
use Rattle.theory.proofs.FewerRows.{rank_fewer, rank-at_most}
use Rattle.theory.proofs.KeptRows.{kept_cost, kept-minimals}
use Rattle.theory.proofs.Marks.{pick-view}
use Rattle.theory.proofs.MinimalRows.{minimals_different, minimals-minimal}
use Rattle.theory.proofs.SameFamilies.{rank_no_less, minimal_copy}

-- a list with the view's family has a copy of each minimal set, and the view's rank
pub kept-fewest : (d : ℕ) (view rows : List ℕ) → Rows d view → Rows d rows → SameFamily d view rows → length (kept d view) ≤ length rows
kept-fewest d view rows G R same =
    omega (
      arith,
      kept_cost d view,
      rank_no_less d view rows G R same,
      rank_fewer d (minimals view) rows (minimals_different view)
          (λ x m. minimal_copy d view rows G R same x (pick-view (firsts view) view x m) (minimals-minimal view x m)),
    )

-- 'Their number is at least the number of different minimal sets ..'
pub kept-at_least : (d : ℕ) (view : List ℕ) → length (minimals view) ≤ length (kept d view)
kept-at_least d view = kept-minimals d view

-- '.. and at most that number plus d.'
pub kept-at_most : (d : ℕ) (view : List ℕ) → length (kept d view) ≤ length (minimals view) + d
kept-at_most d view = omega (arith, kept_cost d view, rank-at_most d view)
