-- `read` meets its contract. Assumes nothing.
use Rattle.std.proofs.Common.{refl, sym, ap, ◌∙◌, Err}
use Rattle.std.proofs.lemmas.Result.{err_from_is_err_and}
use borrow.Author.Tests.{lt-ltb, le-ltb}
use Rattle.files.proofs.ReadFiles.{then_places, still_refused}
use Rattle.files.proofs.read.Goals as goal

pub returns-in_err-judged : goal.returns-in_err-judged
returns-in_err-judged c =
    let left = err_from_is_err_and c.from_residual.result c.from_residual.ensures.1 in
    let told = left.1 ∙ ap Err left.2 in
    (told ∙ sym (still_refused _ _ _ c.in_err-judged.ensures), rw told refl)

pub returns-then-row_count-judged : goal.returns-then-row_count-judged
returns-then-row_count-judged c =
    let judged = c.in_ok-judged in
    let refused = then_places _ _ _ _ judged.judged.accepted ∙ rw (sym c.row_count.ensures, lt-ltb _ _ c.if-row_count-judged.true) refl in
    rw (sym judged.ensures) (sym refused, refl)

pub returns : goal.returns
returns c =
    let judged = c.in_ok-judged in
    let accepted = then_places _ _ _ _ judged.judged.accepted ∙ rw (sym c.row_count.ensures, le-ltb _ _ c.if-row_count-judged.false) refl in
    rw (sym judged.ensures) (sym accepted, c.fill.ensures)
