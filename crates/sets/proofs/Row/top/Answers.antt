-- `Row::top` meets its contract. Assumes nothing.
use Prim.Native.Nat.{ℕ, ◌-◌}
use mathlib.Core.Path.{sym, ap}
use lib.Count.{count_leading_zeros}
use Rattle.sets.specs.Limits.{word_bits}
use Rattle.sets.proofs.OneWord.{bits_is}
use Rattle.sets.proofs.Row.top.Goals as goal

pub returns : goal.returns
returns c = sym (ap (λ (x : ℕ). word_bits - count_leading_zeros word_bits x) (bits_is _ c.struct_known-1.given))
