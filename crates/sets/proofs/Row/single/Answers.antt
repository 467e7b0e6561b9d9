-- `Row::single` meets its contract. Assumes nothing.
use Prim.Native.Nat.{ℕ}
use mathlib.Core.Path.{ap, ◌∙◌}
use mathlib.Core.List.{[], ◌∷◌}
use lib.Pow.{pow-lt}
use Rattle.sets.specs.Words.{bits_of}
use Rattle.sets.specs.Rows.{words_of, bits}
use Rattle.sets.proofs.WordSets.{one_word}
use Rattle.sets.proofs.Row.single.Goals as goal

pub returns : goal.returns
unfolding bits words_of
returns c = ap (λ (x : ℕ). bits_of (x ∷ [])) c.single.ensures ∙ one_word _ (pow-lt c.requires)
