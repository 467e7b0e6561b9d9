-- `ask` meets its contract. Assumes nothing.
use Rattle.std.proofs.Common.{refl, sym, ap, ◌∙◌, arith, Ok, Err}
use Rattle.std.proofs.lemmas.Result.{err_from_is_err_and}
use Rattle.refusals.proofs.TablesJudged.{judged_right, judged_refused}
use Rattle.distinct.proofs.Asking.{view_refused, list_refused, answers, may_ask}
use Rattle.distinct.proofs.ask.Goals as goal

pub returns-in_err-judge : goal.returns-in_err-judge
returns-in_err-judge c =
    let left = err_from_is_err_and c.from_residual.result c.from_residual.ensures.1 in
    let told = left.1 ∙ ap Err left.2 in
    let refused = judged_refused _ _ (sym c.in_err-judge.ensures) in
    (told ∙ sym (view_refused _ _ _ _ refused), rw told refl)

pub returns-then-list-row_count : goal.returns-then-list-row_count
returns-then-list-row_count c =
    let right = judged_right _ (sym c.judge.ensures ∙ c.in_ok-judge.was) in
    (sym (list_refused _ _ right _ (omega (arith, c.if-list-row_count.true, c.row_count.ensures))), refl)

pub distinct-requires : goal.distinct-requires
distinct-requires c =
    let right = judged_right _ (sym c.judge.ensures ∙ c.in_ok-judge.was) in
    may_ask _ _ right _ (omega (arith, c.if-list-row_count.false, c.row_count.ensures))

pub returns : goal.returns
returns c =
    let right = judged_right _ (sym c.judge.ensures ∙ c.in_ok-judge.was) in
    let kept = c.distinct.ensures in
    (ap Ok kept.0 ∙ sym (answers _ _ right _ (omega (arith, c.if-list-row_count.false, c.row_count.ensures))), kept.1)
