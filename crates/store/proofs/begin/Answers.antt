-- `begin` meets its contract. Assumes nothing.
use Rattle.std.proofs.Common.{sym, ◌∙◌}
use Rattle.store.proofs.Replying.{begun_refused, begun_right}
use Rattle.store.proofs.begin.Goals as goal

pub returns-in-Ok : goal.returns-in-Ok
returns-in-Ok c = rw (c.fresh.ensures, c.row_count.ensures) (begun_right _ _ _ (sym c.may_begin.ensures ∙ c.in-Ok.is))

pub returns-in-Err : goal.returns-in-Err
returns-in-Err c = rw c.fresh-in-Err.ensures (begun_refused _ _ _ _ (sym c.in-Err.ensures))
