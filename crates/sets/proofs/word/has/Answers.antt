-- `sets::word::has` meets its contract: a shift and a remainder for a bit of the word; a word has no value past its bits. Assumes nothing.
use mathlib.Core.Path.{sym}
use native.Mathlib.Omega.{arith}
use borrow.Author.Rules.{rules}
use Rattle.sets.specs.Limits.{word_bits}
use Rattle.sets.specs.Sets.{has}
use Rattle.sets.proofs.Bools.{is_false}
use Rattle.sets.proofs.ValuesBelow.{has_less}
use Rattle.sets.proofs.word.has.Goals as goal

pub returns-then-v-lt-BITS : goal.returns-then-v-lt-BITS
unfolding has
returns-then-v-lt-BITS c = search rules

pub returns-else-v-lt-BITS : goal.returns-else-v-lt-BITS
returns-else-v-lt-BITS c = sym (is_false _ (λ e. omega (arith, has_less word_bits _ _ c.ranges.set.fits e, c.if-v-lt-BITS.false)))
