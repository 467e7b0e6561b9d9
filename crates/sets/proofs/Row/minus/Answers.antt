-- `Row::minus` meets its contract, word by word. Assumes nothing.
use Prim.Native.Nat.{ℕ}
use mathlib.Core.Path.{refl, ap, ◌∙◌}
use mathlib.Core.List.{[], ◌∷◌}
use Rattle.sets.specs.Words.{bits_of}
use Rattle.sets.specs.Rows.{words_of, bits}
use Rattle.sets.proofs.WordSets.{minus-bits}
use Rattle.sets.proofs.Row.minus.Goals as goal

pub returns : goal.returns
unfolding bits words_of
returns c =
    let args = c.args in
    ap (λ (x : ℕ). bits_of (x ∷ [])) c.minus.ensures ∙ minus-bits (words_of args.self) (words_of args.other) refl
