-- `hopeless` meets its contract. Assumes nothing.
use mathlib.Core.Path.{sym, ◌∙◌}
use mathlib.Core.Logic.{inl}
use borrow.Author.Tests.{eqb-false}
use Rattle.sets.specs.Rows.{bits}
use Rattle.sets.proofs.Subsets.{subset-has}
use Rattle.pairing.proofs.seats.Seating.hopeless.Goals as goal

pub returns-else-is_empty : goal.returns-else-is_empty
returns-else-is_empty c =
    record {
      why = λ t. inl (subset-has (bits c.args.row) (bits c.args.self.now.dead) (sym c.subset.ensures ∙ t));
      some = λ _. eqb-false _ _ (sym c.is_empty.ensures ∙ c.if-is_empty.false);
    }
