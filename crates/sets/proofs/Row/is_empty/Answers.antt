-- `Row::is_empty` meets its contract. Assumes nothing.
use Prim.Native.Nat.{ℕ, zero}
use mathlib.Core.Path.{sym, ap}
use lib.Dec.{eqb}
use Rattle.sets.proofs.OneWord.{bits_is}
use Rattle.sets.proofs.Row.is_empty.Goals as goal

pub returns : goal.returns
returns c = sym (ap (λ (x : ℕ). eqb x zero) (bits_is _ c.struct_known-1.given))
