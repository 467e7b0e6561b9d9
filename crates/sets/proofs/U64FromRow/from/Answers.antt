-- `u64::from` of a row meets its contract. Assumes nothing.
use mathlib.Core.Path.{sym, ◌∙◌}
use lib.Bits.{or_zero_r}
use Rattle.sets.proofs.OneWord.{bits_is}
use Rattle.sets.proofs.U64FromRow.from.Goals as goal

pub returns : goal.returns
returns c = or_zero_r _ ∙ sym (bits_is _ c.struct_known-1.given)
