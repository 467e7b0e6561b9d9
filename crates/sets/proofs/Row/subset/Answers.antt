-- `Row::subset` meets its contract. Assumes nothing.
use Prim.Native.Nat.{ℕ, zero}
use mathlib.Core.Path.{ap, ◌∙◌}
use lib.Dec.{eqb}
use Rattle.sets.proofs.Subsets.{minus-empty}
use Rattle.sets.proofs.Row.subset.Goals as goal

pub returns : goal.returns
returns c = c.is_empty.ensures ∙ ap (λ (x : ℕ). eqb x zero) c.minus.ensures ∙ minus-empty _ _
