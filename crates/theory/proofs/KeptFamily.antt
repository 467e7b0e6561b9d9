-- Demand 2, first half: the kept rows allow exactly the same sets of true values as the view. Assumes nothing.
use Prim.Native.Nat.{ℕ}
use mathlib.Core.Path.{sym, subst}
use mathlib.Core.List.{List}
use Rattle.theory.specs.Family.{SameFamily}
use Rattle.theory.specs.Kept.{firsts, marks, kept, rows_at}
use Rattle.theory.proofs.FamilyByRank.{family_by_rank}
use Rattle.theory.proofs.KeptRows.{marks_more, kept_rows, kept-rank}
use Rattle.theory.proofs.Marks.{pick_more}
use Rattle.theory.proofs.MinimalRows.{minimals_cover}

pub kept-family : (d : ℕ) (view : List ℕ) → SameFamily d view (rows_at view (kept d view))
kept-family d view =
    subst (SameFamily d view) (sym (kept_rows d view))
    (family_by_rank d (marks d view) view
    (λ r m. let t = minimals_cover view r m in (t.0, pick_more (firsts view) (marks d view) view t.0 (marks_more d view) t.1, t.2))
    (kept-rank d view))
