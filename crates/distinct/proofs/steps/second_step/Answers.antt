-- `second_step` meets its contract: a turn of offers to the marked rows, then one to the others. Assumes nothing.
use mathlib.Core.Path.{refl}
use native.Mathlib.Omega.{arith}
use Rattle.sets.specs.Rows.{rows_of}
use Rattle.distinct.proofs.Start.{pairs_start}
use Rattle.distinct.proofs.Offers.{turn_begins, turn_ends}
use Rattle.distinct.proofs.steps.second_step.Goals as goal

pub loop-marked-init : goal.loop-marked-init
loop-marked-init c =
    let start = pairs_start c.args.d (rows_of c.args.view.now) c.requires.keep_len.1 _ _ c.all-all.ensures.0 c.empty-none.ensures.0 in
    let len = c.requires.rows_len in
    record {
      marked_next = λ _. (rw len.1 (start c.args.keep.now (rows_of c.args.rows.now) c.args.mates.now c.requires.keep_len.0 len.0 len.2), refl);
      others_next = λ e. absurd (omega arith);
      over = λ e. absurd (omega arith);
    }

pub offer_seats-requires : goal.offer_seats-requires
offer_seats-requires c = turn_begins c.loop-marked.marked-index c.loop-marked-test.true c.loop-marked.invariant

pub loop-marked-preserved : goal.loop-marked-preserved
loop-marked-preserved c =
    turn_ends c.loop-marked.marked-index c.loop-marked-test.true c.loop-marked.invariant c.offer_seats.ensures

pub returns : goal.returns
returns c = c.loop-marked.invariant.over c.loop-marked-test.false
