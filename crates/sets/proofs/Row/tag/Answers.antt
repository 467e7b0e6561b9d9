-- `Row::tag` meets its contract. Assumes nothing.
use Prim.Native.Nat.{ℕ, ◌%◌}
use mathlib.Core.Path.{sym, ap, ap₂, ◌∙◌}
use mathlib.Core.List.{[]}
use lib.Bits.{bit_xor, xor_zero_l}
use Rattle.sets.specs.Words.{bits_of}
use Rattle.sets.specs.Rows.{words_of, bits, tag_of}
use Rattle.sets.proofs.WordSets.{low_part, high_part}
use Rattle.sets.proofs.Row.tag.Goals as goal

pub returns : goal.returns
unfolding bits words_of tag_of bits_of
returns c =
    let low = c.args.self.low in
    sym (ap (λ (x : ℕ). x % 509) (ap₂ bit_xor (high_part low []) (low_part low [] c.struct_known-1.given.0.fits) ∙ xor_zero_l low))
