-- `put_rows` meets its contract. The invariant: the rows before the next stand behind the first 8 bytes. Assumes nothing.
use Rattle.sets.specs.Rows.{rows_of}
use Rattle.files.proofs.Saving.{Saving}
use Rattle.files.proofs.writer.put_rows.Given as goal

abbrev pub invariant-loop-next : goal.invariant-loop-next
invariant-loop-next l = Saving l.initial.buffer (rows_of l.table) l.next l.buffer
