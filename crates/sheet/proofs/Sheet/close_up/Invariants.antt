-- `Sheet::close_up` meets its contract. The invariant: the places before the next are passed, and nothing but places has moved. Assumes nothing.
use Prim.Native.Nat.{◌≤◌}
use mathlib.Core.Path.{◌≡◌}
use Rattle.sheet.specs.Changes.{placing}
use Rattle.sheet.proofs.ClosingPass.{Passing}
use Rattle.sheet.proofs.Sheet.close_up.Given as goal

abbrev pub invariant-loop-next : goal.invariant-loop-next
invariant-loop-next l = record {
  seen_few : l.seen ≤ l.next;
  left_few : l.left ≤ l.next;
  passed : Passing l.desk l.from l.upto l.initial.self.sets l.initial.self.owners l.seen l.left l.next l.self.sets l.self.owners;
  rest : l.self ≡ placing l.initial.self l.initial.self.used l.self.sets l.self.owners;
}
