-- `look` meets its contract. Assumes nothing.
use Rattle.std.proofs.Common.{sym, ap, Ok}
use borrow.Author.Tests.{le-leb, lt-leb}
use Rattle.refusals.specs.Cases.{decided}
use Rattle.store.specs.declared.Answer.TheVariants.{Seen}
use Rattle.store.proofs.desk.look.Goals as goal

pub returns-then-row_count-n : goal.returns-then-row_count-n
unfolding decided
returns-then-row_count-n c = simp (sym c.row_count.ensures, le-leb _ _ c.if-row_count-n.true)

pub returns : goal.returns
unfolding decided
returns c = simp (sym c.row_count.ensures, lt-leb _ _ c.if-row_count-n.false) (ap (λ r. Ok (Seen r)) c.row_at.ensures.1)
