-- `minimal::sift` meets its contract. The invariant: the sizes of the rows that are not judged yet are those to come. Assumes nothing.
use Rattle.sets.specs.Rows.{bits, rows_of}
use Rattle.minimal.proofs.Sifting.{Levels}
use Rattle.minimal.proofs.sieve.sift.Given as goal

abbrev pub invariant-loop-less : goal.invariant-loop-less
invariant-loop-less l = Levels (rows_of l.rows) l.keep (rows_of l.mins) l.found (bits l.less-iterator.left)
