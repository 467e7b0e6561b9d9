-- `Sheet::marks_right` meets its contract. The invariant: the words before the next have only rows that they may have. Assumes nothing.
use mathlib.Core.Path.{sym, ◌∙◌}
use native.Mathlib.Numerals.{unary_clauses}
use borrow.Author.Rules.{rules}
use Rattle.sheet.proofs.Markings.{marked_more, marked_all}
use Rattle.sheet.proofs.Sheet.marks_right.Goals as goal

pub loop-i-preserved : goal.loop-i-preserved
loop-i-preserved c =
    simp unary_clauses (marked_more c.loop-i.invariant (search rules) (sym c.word_right.ensures ∙ c.if-not-word_right.false))

pub returns : goal.returns
returns c = marked_all c.loop-i.invariant c.loop-i-test.false
