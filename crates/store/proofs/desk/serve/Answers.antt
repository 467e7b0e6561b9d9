-- `serve` meets its contract: a change is judged, and a question is answered of the view. Assumes nothing.
use Prim.Native.Nat.{ℕ, ◌≤◌}
use mathlib.Core.Path.{sym, ap, subst, ◌∙◌}
use Rattle.std.specs.Prelude.{Err}
use Rattle.std.proofs.lemmas.Result.{err_from_is_err_and}
use mathlib.Core.List.{List}
use native.Mathlib.Omega.{arith}
use lib.ListN.{length}
use Rattle.sets.specs.Limits.{most_in_view}
use Rattle.sets.proofs.LentRows.{rows_zero-length}
use Rattle.distinct.specs.Code.Steps.{InColumn}
use Rattle.store.proofs.Trusting.{limits, in_column}
use Rattle.store.proofs.Serving.{view-words, served_change, refused_change, served_question}
use Rattle.store.proofs.desk.serve.Goals as goal

pub gather-many-requires : goal.gather-many-requires
gather-many-requires c =
    let L = limits _ _ _ _ _ c.requires in
    (L.desk, L.table_rows, L.used, L.share, rows_zero-length most_in_view)

pub offset_bounds-counts-desk : goal.offset_bounds-counts-desk
offset_bounds-counts-desk c =
    record { fits = omega (arith, (limits _ _ _ _ _ c.requires).desk) }

pub bounds-counts-desk : goal.bounds-counts-desk
bounds-counts-desk c = (limits _ _ _ _ _ c.requires).desk

pub answer_question-requires : goal.answer_question-requires
answer_question-requires c =
    let seen = c.gather-many.ensures in
    let few = subst (λ (n : ℕ). n ≤ most_in_view) seen.count seen.most in
    subst (λ (rows : List ℕ). (length rows ≤ most_in_view) × InColumn c.args.d rows) (sym (view-words _ seen))
    (few, in_column _ _ _ _ _ c.requires)

pub returns-in_err-judge_change-in-Do : goal.returns-in_err-judge_change-in-Do
returns-in_err-judge_change-in-Do c =
    let left = err_from_is_err_and c.from_residual.result c.from_residual.ensures.1 in
    rw (left.1 ∙ ap Err left.2) (refused_change c.requires c.args.list.now c.args.call _ c.in-Do.is _ c.in_err-judge_change-in-Do.ensures)

pub returns-in_ok-judge_change-in-Do : goal.returns-in_ok-judge_change-in-Do
returns-in_ok-judge_change-in-Do c =
    served_change c.requires c.args.list.now c.args.call _ c.in-Do.is (sym c.in_ok-judge_change-in-Do.was ∙ c.judge_change.ensures)

pub returns-in-Ask : goal.returns-in-Ask
returns-in-Ask c =
    served_question c.requires c.args.list.now c.args.call _
    c.in-Ask.is _ _
    c.gather-many.ensures _ _ c.answer_question.ensures
