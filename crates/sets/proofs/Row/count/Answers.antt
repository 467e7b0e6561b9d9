-- `Row::count` meets its contract. Assumes nothing.
use mathlib.Core.Path.{sym, ap}
use lib.Count.{ones}
use Rattle.sets.proofs.OneWord.{bits_is}
use Rattle.sets.proofs.Row.count.Goals as goal

pub returns : goal.returns
returns c = sym (ap ones (bits_is _ c.struct_known-1.given))
