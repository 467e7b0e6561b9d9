-- `carry_out` meets its contract: the answer, and the change where one is accepted. Assumes nothing.
use Rattle.std.proofs.Common.{sym, ◌∙◌}
use Rattle.store.specs.Calls.{changed}
use Rattle.store.proofs.Replying.{ok_accepted, carried_refused, carried_accepted, carried_question}
use Rattle.store.proofs.in_place.carry_out.Goals as goal

pub returns-in_default : goal.returns-in_default
returns-in_default c = carried_question _ _ _ _ _ _ _ _ c.respond-answer.ensures _ c.in_default.is

pub make-requires : goal.make-requires
make-requires c =
    rw c.in-Do.is at (c.respond-answer.ensures.room (sym (ok_accepted _) ∙ sym c.is_ok.ensures.value ∙ c.if-is_ok.true))

pub returns-then-is_ok : goal.returns-then-is_ok
unfolding changed
returns-then-is_ok c =
    let accepts = sym (ok_accepted _) ∙ sym c.is_ok.ensures.value ∙ c.if-is_ok.true in
    carried_accepted _ _ _ _ _ _ _ _ c.respond-answer.ensures accepts _ (rw c.in-Do.is c.make.ensures)

pub returns-else-is_ok : goal.returns-else-is_ok
returns-else-is_ok c =
    let refuses = sym (ok_accepted _) ∙ sym c.is_ok.ensures.value ∙ c.if-is_ok.false in
    carried_refused _ _ _ _ _ _ _ _ c.respond-answer.ensures refuses
