-- `sets::lent::put_row` meets its contract. Assumes nothing.
use Prim.Native.Nat.{ℕ, ◌%◌, ◌^◌}
use mathlib.Core.Path.{sym, ap, ap₂, ◌∙◌}
use native.Mathlib.Nat.{mul-one, mod-eq_of_lt}
use native.Mathlib.Omega.{arith}
use lib.Bits.{or_zero_r}
use lib.ListN.{set}
use Rattle.sets.specs.Limits.{word_bits}
use Rattle.sets.specs.Rows.{words_of, as_row, put_row}
use Rattle.sets.proofs.LentRows.{rows_room}
use Rattle.sets.proofs.OneWord.{bits_is}
use Rattle.sets.proofs.lent.put_row.Goals as goal

pub offset_bounds-words-i : goal.offset_bounds-words-i
offset_bounds-words-i c = record { fits = omega (arith, rows_room _ _ c.requires) }

pub bounds-words-i : goal.bounds-words-i
bounds-words-i c = omega (arith, rows_room _ _ c.requires)

pub returns : goal.returns
unfolding put_row words_of as_row
returns c =
    let known = c.struct_known-1.given in
    let word = bits_is c.args.row known in
    ap₂ (set c.args.words.now) (sym (mul-one _))
    (or_zero_r _ ∙ sym (mod-eq_of_lt known.0.fits) ∙ ap (λ (x : ℕ). x % 2 ^ word_bits) (sym word))
