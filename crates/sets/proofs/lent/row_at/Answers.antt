-- `sets::lent::row_at` meets its contract. Assumes nothing.
use mathlib.Core.Path.{sym, ap, ◌∙◌}
use native.Mathlib.Nat.{mul-one}
use native.Mathlib.Omega.{arith}
use lib.ListN.{get_or}
use Rattle.sets.specs.Rows.{words_of, bits, as_row}
use Rattle.sets.proofs.LentRows.{rows_room, rows_at}
use Rattle.sets.proofs.WordSets.{one_word}
use Rattle.sets.proofs.OneWord.{row_is}
use Rattle.sets.proofs.lent.row_at.Goals as goal

pub offset_bounds-words-i : goal.offset_bounds-words-i
offset_bounds-words-i c = record { fits = omega (arith, rows_room _ _ c.requires) }

pub bounds-words-i : goal.bounds-words-i
bounds-words-i c = omega (arith, rows_room _ _ c.requires)

pub returns : goal.returns
unfolding bits words_of
returns c =
    let ws = c.args.words.now in
    let i = c.args.i in
    let small = (c.shared_slice_known-1.given i).fits in
    let word = rw mul-one at (rows_at ws i c.requires) in
    (sym word, row_is _ small ∙ ap as_row (sym (word ∙ one_word (get_or ws i 0) small)))
