-- `Row::rest` meets its contract: one less, and what both have in common. Assumes nothing.
use Prim.Native.Nat.{ℕ, ◌-◌}
use mathlib.Core.Path.{sym, ap, ◌∙◌}
use native.Mathlib.Nat.{lt_of_le_of_lt}
use lib.Bits.{bit_and, and_le_l}
use lib.Count.{count_trailing_zeros}
use Rattle.sets.specs.Limits.{word_bits}
use Rattle.sets.specs.Sets.{single, minus}
use Rattle.sets.specs.Rows.{words_of, bits}
use Rattle.sets.proofs.Extremes.{rest_is}
use Rattle.sets.proofs.WordSets.{one_word}
use Rattle.sets.proofs.OneWord.{bits_is}
use Rattle.sets.proofs.Row.rest.Goals as goal

pub returns-then-self-eq0 : goal.returns-then-self-eq0
unfolding minus
returns-then-self-eq0 c =
    let none = bits_is c.args.self c.struct_known-1.given ∙ c.if-self-eq0.true in
    none ∙ sym (ap (λ (n : ℕ). minus n (single (count_trailing_zeros word_bits n))) none)

pub returns : goal.returns
unfolding bits words_of
returns c =
    let set = c.args.self in
    let h = c.struct_known-3-1.given.0.fits in
    one_word (bit_and set.low (set.low - 1)) (lt_of_le_of_lt (and_le_l set.low (set.low - 1)) h)
    ∙ rest_is word_bits set.low h c.if-self-eq0.false
    ∙ sym (ap (λ (n : ℕ). minus n (single (count_trailing_zeros word_bits n))) (bits_is set c.struct_known-3-1.given))
