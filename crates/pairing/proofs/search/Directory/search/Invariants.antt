-- `search` meets its contract. The invariant: what each value that is no longer left has heard. Assumes nothing.
use Rattle.sets.specs.Rows.{bits, rows_of}
use Rattle.pairing.proofs.SearchRounds.{Round}
use Rattle.pairing.proofs.search.Directory.search.Given as goal

abbrev pub invariant-loop-v : goal.invariant-loop-v
invariant-loop-v l =
    Round (bits l.fn.free) (rows_of l.self.rows.now) l.initial.mates l.mates (bits l.asked) (bits l.v-iterator.left)
