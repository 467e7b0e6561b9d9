-- `write` meets its contract. Assumes nothing.
use Prim.Native.Nat.{◌+◌, ◌*◌, ◌≤◌, ◌<◌}
use mathlib.Core.Path.{refl, sym, ap, ◌∙◌}
use Rattle.std.specs.Prelude.{Err}
use Rattle.std.proofs.lemmas.Result.{err_from_is_err_and}
use native.Mathlib.Omega.{arith}
use lib.ListN.{length}
use Rattle.sets.specs.Limits.{most_rows}
use Rattle.refusals.proofs.TablesJudged.{judged_right, judged_refused, right_parts}
use Rattle.files.proofs.Saving.{file_put}
use Rattle.files.proofs.TablesSaved.{still_refused, short, saved}
use Rattle.files.proofs.write.Goals as goal

pub overflow_mul-length : goal.overflow_mul-length
overflow_mul-length c =
    let right = judged_right _ (sym c.judge.ensures ∙ c.in_ok-judge.was) in
    record { fits = omega (arith, (right_parts most_rows _ _ right).small, c.row_count-t.ensures) }

pub overflow_add-length : goal.overflow_add-length
overflow_add-length c =
    let right = judged_right _ (sym c.judge.ensures ∙ c.in_ok-judge.was) in
    record { fits = omega (arith, (right_parts most_rows _ _ right).small, c.row_count-t.ensures) }

pub returns-then-buffer-length : goal.returns-then-buffer-length
returns-then-buffer-length c =
    let less : length c.args.buffer.now < 8 + 8 * c.row_count-t.result = omega (arith, c.if-buffer-length.true) in
    (sym (short _ _ _ (judged_right _ (sym c.judge.ensures ∙ c.in_ok-judge.was)) _ c.row_count-t.ensures less), refl)

pub returns : goal.returns
returns c =
    let enough : 8 + 8 * c.row_count-t.result ≤ length c.args.buffer.now = omega (arith, c.if-buffer-length.false) in (
      sym (saved _ _ _ (judged_right _ (sym c.judge.ensures ∙ c.in_ok-judge.was)) _ c.row_count-t.ensures enough),
      file_put _ _ _ _ _ _ c.row_count-t.ensures c.put_header.ensures c.put_rows.ensures,
    )

pub returns-in_err-judge : goal.returns-in_err-judge
returns-in_err-judge c =
    let left = err_from_is_err_and c.from_residual.result c.from_residual.ensures.1 in
    let told = left.1 ∙ ap Err left.2 in
    (told ∙ sym (still_refused _ _ _ _ (judged_refused _ _ (sym c.in_err-judge.ensures))), rw told refl)
