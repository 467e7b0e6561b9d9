-- `minimal::chain` meets its contract. The invariant: the chains lead through the rows from `i` on. Assumes nothing.
use Rattle.sets.specs.Rows.{bits, rows_of}
use Rattle.minimal.specs.Code.Marking.{Chains, Sizes}
use Rattle.minimal.proofs.chains.chain.Given as goal

abbrev pub invariant-loop-i : goal.invariant-loop-i
invariant-loop-i l = Chains (rows_of l.rows) l.next l.head l.i × Sizes (rows_of l.rows) l.i (bits l.sizes)
