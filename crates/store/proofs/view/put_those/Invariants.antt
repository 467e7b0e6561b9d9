-- `put_those` meets its contract. The invariant: the rows before the next that pass stand behind the first rows. Assumes nothing.
use Rattle.sets.specs.Rows.{rows_of}
use Rattle.store.proofs.Gathering.{Gathered}
use Rattle.store.proofs.view.put_those.Given as goal

abbrev pub invariant-loop-i : goal.invariant-loop-i
invariant-loop-i g l = Gathered g.f (rows_of l.from) l.i l.start l.initial.rows l.n l.rows
