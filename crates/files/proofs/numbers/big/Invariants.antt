-- `big` meets its contract. The invariant: the value is that of the bytes before the next. Assumes nothing.
use Prim.Native.Nat.{◌≤◌, ◌<◌}
use mathlib.Core.Path.{◌≡◌}
use Rattle.files.specs.Bytes.{big}
use Rattle.files.proofs.ByteLaws.{cap}
use Rattle.files.proofs.numbers.big.Given as goal

abbrev pub invariant-loop-next : goal.invariant-loop-next
invariant-loop-next l = (l.next ≤ l.n) × (l.value ≡ big l.file l.from l.next) × (l.value < cap l.next)
