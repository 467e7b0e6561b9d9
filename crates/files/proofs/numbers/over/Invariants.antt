-- `over` meets its contract. The invariant: no row before the next has a value d or above. Assumes nothing.
use Prim.Native.Nat.{◌≤◌}
use mathlib.Core.Path.{◌≡◌}
use mathlib.Core.Bool.{not}
use Rattle.std.specs.Prelude.{None}
use Rattle.sets.specs.Sets.{below}
use Rattle.files.specs.Rows.{lowest_to}
use Rattle.files.specs.Files.{row_in}
use Rattle.files.proofs.numbers.over.Given as goal

abbrev pub invariant-loop-next : goal.invariant-loop-next
invariant-loop-next l = (l.next ≤ l.n) × (lowest_to (λ i. not (below l.d (row_in l.file i))) l.next ≡ None)
