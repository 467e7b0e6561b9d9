-- `put` meets its contract. The invariant: the bytes from the ones left on are done. Assumes nothing.
use Rattle.files.proofs.Saving.{Putting}
use Rattle.files.proofs.writer.put.Given as goal

abbrev pub invariant-loop-left : goal.invariant-loop-left
invariant-loop-left l = Putting l.initial.buffer l.from l.n l.value l.left l.rest l.buffer
