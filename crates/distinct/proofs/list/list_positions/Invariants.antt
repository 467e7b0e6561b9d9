-- `list_positions` meets its contract. The invariant: the positions of the marks before the next stand at the front. Assumes nothing.
use Rattle.distinct.proofs.Listing.{Listed}
use Rattle.distinct.proofs.list.list_positions.Given as goal

abbrev pub invariant-loop-i : goal.invariant-loop-i
invariant-loop-i l = Listed l.keep l.initial.list l.list l.n l.i
