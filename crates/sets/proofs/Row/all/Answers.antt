-- `Row::all` meets its contract. Assumes nothing.
use Prim.Native.Nat.{ℕ, ◌^◌, ◌<◌}
use mathlib.Core.Path.{sym, ap, ◌∙◌, subst}
use mathlib.Core.List.{[], ◌∷◌}
use native.Mathlib.Nat.{lt_of_lt_of_le}
use lib.Pow.{ones_lt, pow_mono}
use Rattle.sets.specs.Limits.{word_bits}
use Rattle.sets.specs.Words.{bits_of}
use Rattle.sets.specs.Rows.{words_of, bits, as_row}
use Rattle.sets.proofs.WordSets.{one_word}
use Rattle.sets.proofs.OneWord.{row_is}
use Rattle.sets.proofs.Row.all.Goals as goal

pub returns : goal.returns
unfolding bits words_of
returns c =
    let word = c.all.ensures in
    let small = lt_of_lt_of_le (ones_lt c.args.d) (pow_mono c.requires) in
    (ap (λ (x : ℕ). bits_of (x ∷ [])) word ∙ one_word _ small, row_is _ (subst (λ (x : ℕ). x < 2 ^ word_bits) (sym word) small) ∙ ap as_row word)
