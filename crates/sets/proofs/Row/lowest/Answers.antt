-- `Row::lowest` meets its contract. Assumes nothing.
use mathlib.Core.Path.{sym, ap}
use lib.Count.{count_trailing_zeros}
use Rattle.sets.specs.Limits.{word_bits}
use Rattle.sets.proofs.OneWord.{bits_is}
use Rattle.sets.proofs.Row.lowest.Goals as goal

pub returns : goal.returns
returns c = sym (ap (count_trailing_zeros word_bits) (bits_is _ c.struct_known-1.given))
