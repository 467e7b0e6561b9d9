-- `sets::lent::row_count` meets its contract. Assumes nothing.
use mathlib.Core.Path.{sym, ◌∙◌}
use native.Mathlib.Nat.{div-one}
use lib.ListN.{length}
use Rattle.sets.proofs.LentRows.{rows_length}
use Rattle.sets.proofs.lent.row_count.Goals as goal

pub returns : goal.returns
returns c = sym (rows_length c.args.words.now ∙ div-one (length c.args.words.now))
