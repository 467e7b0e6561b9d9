-- `near` meets its contract. Assumes nothing.
use mathlib.Core.Path.{sym, ◌∙◌}
use borrow.Author.Tests.{eqb-false}
use Rattle.sets.specs.Sets.{has}
use Rattle.sets.specs.Rows.{bits}
use Rattle.sets.proofs.Bools.{and_both}
use Rattle.sets.proofs.Values.{has-and}
use Rattle.pairing.proofs.SeatSteps.{near_value}
use Rattle.pairing.proofs.seats.near.Goals as goal

pub returns-then-is_empty : goal.returns-then-is_empty
returns-then-is_empty c =
    let both = c.both.ensures in
    near_value (bits c.args.row) (bits c.args.free) _ _ both c.lowest.ensures (λ z. c.requires.0 (sym both ∙ z))

pub returns-else-is_empty : goal.returns-else-is_empty
returns-else-is_empty c =
    let row = bits c.args.row in
    let fresh = bits c.args.fresh in
    let v = c.lowest-else-is_empty.result in
    let some = eqb-false _ _ (sym c.is_empty.ensures ∙ c.if-is_empty.false) in
    let t = near_value row fresh _ v c.both-new.ensures c.lowest-else-is_empty.ensures some in
    (t.0, c.requires.1 v (has-and row fresh v ∙ and_both (has row v) (has fresh v) t.2 t.1), t.2)
