-- `minimal::level` meets its contract.
-- The invariant: the rows of the chain before `place` are judged, and the tags are those of its minimal rows. Assumes nothing.
use Prim.Native.Nat.{◌-◌}
use Rattle.sets.specs.Rows.{rows_of}
use Rattle.minimal.proofs.RowTags.{Tagged}
use Rattle.minimal.proofs.Sifting.{Walk}
use Rattle.minimal.proofs.sieve.level.Given as goal

abbrev pub invariant-loop-place : goal.invariant-loop-place
invariant-loop-place l = Walk (rows_of l.rows) l.keep (rows_of l.mins) l.found l.k l.place × Tagged (rows_of l.mins) l.base l.found l.k l.tags.words

abbrev pub decreases-loop-place : goal.decreases-loop-place
decreases-loop-place l = l.n - l.place
