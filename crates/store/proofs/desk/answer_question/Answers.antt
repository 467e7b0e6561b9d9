-- `answer_question` meets its contract: each question is handed to its own part. Assumes nothing.
use Prim.Native.Nat.{ℕ}
use mathlib.Core.Path.{ap}
use Rattle.std.specs.Prelude.{Ok}
use Rattle.refusals.specs.Cases.{decided}
use Rattle.store.specs.declared.Answer.TheVariants.{Counted}
use Rattle.store.proofs.Serving.{nothing_written}
use Rattle.store.proofs.desk.answer_question.Goals as goal

pub returns-in-Look : goal.returns-in-Look
returns-in-Look c = rw c.in-Look.is record { answer_is = c.look.ensures; list_is = nothing_written _ _ }

pub returns-in-Count : goal.returns-in-Count
unfolding decided
returns-in-Count c =
    rw c.in-Count.is
    record { answer_is = ap (λ (n : ℕ). Ok (Counted n c.args.held)) c.row_count.ensures; list_is = nothing_written _ _ }
