-- `list_positions` meets its contract. The invariant: the positions of the marks before the next stand at the front. Assumes nothing.
use Rattle.distinct.proofs.Listing.{listed_start, listed_pass, listed_more}
use Rattle.distinct.proofs.list.list_positions.Goals.{then-kept, else-kept}
use Rattle.distinct.proofs.list.list_positions.Goals as goal

pub loop-i-init : goal.loop-i-init
loop-i-init c = listed_start

pub loop-i-preserved : goal.loop-i-preserved
loop-i-preserved c =
    let l = c.loop-i in
    elim c.if-kept.branch [
      | then-kept w ↦ rw (w.list-is, w.n-is) (listed_more l.invariant c.loop-i-test.true c.requires w.if-kept.true)
      | else-kept w ↦ rw (w.list-is, w.n-is) (listed_pass l.invariant c.loop-i-test.true w.if-kept.false)
    ]
