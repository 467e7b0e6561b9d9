-- `put` meets its contract. The invariant: the bytes from the ones left on are done. Assumes nothing.
use mathlib.Core.Path.{◌≡◌}
use native.Mathlib.Omega.{arith}
use Rattle.files.proofs.Saving.{putting_next, putting_end}
use Rattle.files.proofs.writer.put.Goals as goal

pub loop-left-preserved : goal.loop-left-preserved
loop-left-preserved c =
    let l = c.loop-left in
    putting_next c.args.buffer.now c.args.from c.args.n c.args.value c.requires l.left l.rest l.buffer c.loop-left-test.true
    l.invariant

pub returns : goal.returns
returns c =
    let l = c.loop-left in
    let none : l.left ≡ 0 = omega (arith, c.loop-left-test.false) in
    putting_end c.args.buffer.now c.args.from c.args.n c.args.value l.left l.rest l.buffer none l.invariant
