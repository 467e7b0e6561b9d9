-- `unreached` meets its contract. The invariant: the rows before the next have been looked at. Assumes nothing.
use mathlib.Core.Path.{sym, ◌∙◌}
use Rattle.sets.proofs.Bools.{not_both}
use Rattle.theory.proofs.Places.{not_mate}
use Rattle.pairing.proofs.SeatReach.{reach_start, reach_pass, reach_more}
use Rattle.pairing.proofs.seats.unreached.Goals.{then-mate-ne0+then-not-has, else-mate-ne0}
use Rattle.pairing.proofs.seats.unreached.Goals.{else-mate-ne0-via-then-mate-ne0+else-not-has, else-mate-ne0-via-else-mate-ne0}
use Rattle.pairing.proofs.seats.unreached.Goals as goal

pub loop-i-init : goal.loop-i-init
loop-i-init c = rw c.empty-dead.ensures.0 reach_start

pub loop-i-preserved : goal.loop-i-preserved
loop-i-preserved c =
    let R = c.loop-i.invariant in
    elim c.if-mate-ne0.branch [
      | then-mate-ne0+then-not-has w ↦
          rw (w.dead-is, w.with-dead.ensures)
          (reach_more R c.loop-i-test.true w.if-mate-ne0.true (sym w.has.ensures ∙ w.if-not-has.true))
      | else-mate-ne0 w ↦ rw w.dead-is (reach_pass R c.loop-i-test.true (elim w.else-mate-ne0.branch [
        | else-mate-ne0-via-then-mate-ne0+else-not-has w' ↦ λ u e n. not_both (sym w'.has.ensures ∙ w'.if-not-has.false) n
        | else-mate-ne0-via-else-mate-ne0 w' ↦ λ u e n. not_mate w'.if-mate-ne0.false e
      ]))
    ]
