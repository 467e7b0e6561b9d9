-- `put_rows` meets its contract. The invariant: the rows before the next stand behind the first 8 bytes. Assumes nothing.
use Prim.Native.Nat.{◌<◌}
use mathlib.Core.Path.{◌∙◌}
use native.Mathlib.Omega.{arith}
use lib.ListN.{length}
use Rattle.sets.specs.Rows.{rows_of}
use Rattle.files.proofs.Saving.{saving_start, saving_next}
use Rattle.files.proofs.writer.put_rows.Goals as goal

pub loop-next-init : goal.loop-next-init
loop-next-init c =
    saving_start c.args.buffer.now (rows_of c.args.table.now) (omega (arith, c.requires))

pub loop-next-preserved : goal.loop-next-preserved
loop-next-preserved c =
    let table = rows_of c.args.table.now in
    let less = c.loop-next-test.true in
    let here : c.loop-next.next < length table = omega (arith, less, c.row_count-next-end.ensures) in
    let same = c.from.ensures ∙ c.row_at-row.ensures.0 in
    saving_next c.args.buffer.now table c.loop-next.next c.from.result c.loop-next.buffer _ here c.loop-next.invariant same
    c.put.ensures
