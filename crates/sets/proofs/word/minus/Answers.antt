-- `sets::word::minus` meets its contract, which is its code. Assumes nothing.
use mathlib.Core.Path.{refl}
use Rattle.sets.specs.Sets.{minus}
use Rattle.sets.proofs.word.minus.Goals as goal

pub returns : goal.returns
unfolding minus
returns c = refl
