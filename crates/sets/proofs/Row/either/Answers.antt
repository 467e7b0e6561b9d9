-- `Row::either` meets its contract, word by word. Assumes nothing.
use mathlib.Core.Path.{refl}
use Rattle.sets.specs.Rows.{words_of, bits}
use Rattle.sets.proofs.WordSets.{or-bits}
use Rattle.sets.proofs.Row.either.Goals as goal

pub returns : goal.returns
unfolding bits words_of
returns c = let args = c.args in or-bits (words_of args.self) (words_of args.other) refl
