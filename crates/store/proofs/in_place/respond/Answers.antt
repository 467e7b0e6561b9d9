-- `respond` meets its contract: the refusals in their order, then the answer. Assumes nothing.
use Rattle.std.proofs.Common.{sym, ap, ◌∙◌, Err}
use Rattle.std.proofs.lemmas.Result.{err_from_is_err_and}
use Rattle.store.proofs.Replying.{table_refused, sheet_refused, desk_refused, trusted, served_responds}
use Rattle.store.proofs.in_place.respond.Goals as goal

pub returns-in_err-judge : goal.returns-in_err-judge
returns-in_err-judge c =
    let left = err_from_is_err_and c.from_residual.result c.from_residual.ensures.1 in
    rw (left.1 ∙ ap Err left.2) (table_refused _ _ _ _ _ _ _ (sym c.in_err-judge.ensures))

pub returns-in_default : goal.returns-in_default
returns-in_default c =
    sheet_refused _ _ _ _ _ _ (sym c.judge.ensures ∙ c.in_ok-judge.was) c.in_default.ensures

pub returns-in_err-known : goal.returns-in_err-known
returns-in_err-known c =
    let left = err_from_is_err_and c.from_residual-in_err-known.result c.from_residual-in_err-known.ensures.1 in
    rw (left.1 ∙ ap Err left.2)
    (desk_refused _ _ _ _ _ _ (sym c.judge.ensures ∙ c.in_ok-judge.was) c.in-Some.ensures.0 _
    (rw c.row_count.ensures at (sym c.in_err-known.ensures)))

pub serve-requires : goal.serve-requires
serve-requires c =
    trusted _ _ _ _ _ (sym c.judge.ensures ∙ c.in_ok-judge.was) c.in-Some.ensures.0 c.in-Some.ensures.1.each
    (rw c.row_count.ensures at (sym c.known.ensures ∙ c.in_ok-known.was))

pub returns : goal.returns
returns c =
    served_responds _ _ _ _ _ (sym c.judge.ensures ∙ c.in_ok-judge.was) c.in-Some.ensures.0 c.in-Some.ensures.1.each
    (rw c.row_count.ensures at (sym c.known.ensures ∙ c.in_ok-known.was)) c.serve.ensures
