-- `put_those` meets its contract. The invariant: the rows before the next that pass stand behind the first rows. Assumes nothing.
use Rattle.std.proofs.Common.{sym, ◌∙◌, arith}
use Rattle.sets.proofs.LentRows.{rows_length}
use Rattle.store.proofs.Gathering.{gathered_start, gathered_pass, gathered_more, gathered_room}
use Rattle.store.proofs.view.put_those.Goals as goal
use Rattle.store.proofs.view.put_those.Goals.{then-passes, else-passes}

pub loop-i-init : goal.loop-i-init
loop-i-init g c = gathered_start

pub put_row-requires : goal.put_row-requires
put_row-requires g c = grind (arith, gathered_room)

pub overflow_add-n : goal.overflow_add-n
overflow_add-n g c = record { fits = grind (arith, gathered_room, rows_length c.loop-i.rows) }

pub loop-i-preserved : goal.loop-i-preserved
loop-i-preserved g c =
    let told = c.requires.1.0.told _ _ c.loop-i-test.true c.passes.ensures in
    elim c.if-passes.branch [
      | then-passes w ↦
          (let passes = sym told ∙ w.if-passes.true in
          let room = gathered_room c.loop-i.invariant c.args.many c.loop-i-test.true passes (omega arith) in
          rw (w.n-is, w.rows-is) (gathered_more c.loop-i.invariant passes room _ w.row_at.ensures.0 w.put_row.ensures))
      | else-passes w ↦ rw (w.n-is, w.rows-is) (gathered_pass c.loop-i.invariant (sym told ∙ w.if-passes.false))
    ]
