-- `Row::empty` meets its contract. Assumes nothing.
use mathlib.Core.Path.{refl}
use Rattle.sets.specs.Words.{bits_of}
use Rattle.sets.specs.Rows.{words_of, bits, as_row}
use Rattle.sets.proofs.Row.empty.Goals as goal

pub returns : goal.returns
unfolding bits words_of bits_of as_row
returns c = (refl, refl)
