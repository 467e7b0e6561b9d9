-- `fill` meets its contract. The invariant: the cells before the next stand at the front. Assumes nothing.
use Prim.Native.Nat.{◌≤◌}
use Rattle.files.specs.Files.{cell_in}
use Rattle.files.proofs.Filling.{Filling}
use Rattle.files.proofs.cells.Judged.fill.Given as goal

abbrev pub invariant-loop-next : goal.invariant-loop-next
invariant-loop-next l = (l.next ≤ l.self.rows) × Filling (cell_in l.self.file.now) l.initial.list l.list l.next
