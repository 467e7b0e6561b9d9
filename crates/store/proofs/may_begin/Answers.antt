-- `may_begin` meets its contract: refusals 1, 2 and 13 in their order. Assumes nothing.
use Rattle.std.proofs.Common.{true, false, refl, sym, ap, ◌∙◌, Err}
use Rattle.std.proofs.lemmas.Result.{err_from_is_err_and}
use borrow.Author.Tests.{eq-eqb, ne_eqb, lt-ltb, le-ltb}
use Rattle.refusals.proofs.TablesJudged.{refused_first}
use Rattle.store.proofs.Replying.{begin_judged}
use Rattle.store.proofs.may_begin.Goals as goal
use Rattle.store.proofs.may_begin.Goals.{then-desks-eq0-via-then-desks-eq0, then-desks-eq0-via-else-desks-eq0+then-desks-gt-DESKS}

pub returns-in_err-judge : goal.returns-in_err-judge
returns-in_err-judge c =
    let left = err_from_is_err_and c.from_residual.result c.from_residual.ensures.1 in
    left.1 ∙ ap Err left.2 ∙ sym (refused_first _ _ _ _ (sym c.in_err-judge.ensures))

pub returns-then-desks-eq0 : goal.returns-then-desks-eq0
returns-then-desks-eq0 c =
    let judged = begin_judged _ _ c.args.desks (sym c.judge.ensures ∙ c.in_ok-judge.was) true in
    elim c.then-desks-eq0.branch [
      | then-desks-eq0-via-then-desks-eq0 w ↦ sym (judged (rw (eq-eqb _ _ w.if-desks-eq0.true) refl))
      | then-desks-eq0-via-else-desks-eq0+then-desks-gt-DESKS w ↦
          sym (judged (rw (ne_eqb _ _ w.if-desks-eq0.false, lt-ltb _ _ w.if-desks-gt-DESKS.true) refl))
    ]

pub returns : goal.returns
returns c =
    let judged = begin_judged _ _ c.args.desks (sym c.judge.ensures ∙ c.in_ok-judge.was) false in
    sym (judged (rw (ne_eqb _ _ c.if-desks-eq0.false, le-ltb _ _ c.if-desks-gt-DESKS.false) refl))
