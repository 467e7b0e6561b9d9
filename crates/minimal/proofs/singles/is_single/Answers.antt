-- `minimal::is_single` meets its contract: nothing is left once the lowest value is taken out. Assumes nothing.
use mathlib.Core.Path.{refl}
use Rattle.sets.proofs.RowValues.{lowest_row}
use Rattle.minimal.proofs.SingleRows.{one_value}
use Rattle.minimal.proofs.singles.is_single.Goals as goal

pub returns : goal.returns
returns c =
    one_value _ _ _ _ (lowest_row c.args.x _ refl c.requires).1 c.rest.ensures c.is_empty.ensures
