-- `Row::from` of a word meets its contract. Assumes nothing.
use Rattle.sets.specs.Rows.{words_of, bits}
use Rattle.sets.proofs.WordSets.{one_word}
use Rattle.sets.proofs.OneWord.{row_is}
use Rattle.sets.proofs.RowFromU64.from.Goals as goal

pub returns : goal.returns
unfolding bits words_of
returns c = (one_word _ c.ranges.word.fits, row_is _ c.ranges.word.fits)
