-- `judge` meets its contract: 26 by the lowest row that has a value d or above. Assumes nothing.
use Rattle.std.proofs.Common.{rules}
use Rattle.refusals.specs.Cases.{decided}
use Rattle.files.specs.FileCases.{front_cases, row_cases}
use Rattle.files.specs.Reading.{judged}
use Rattle.files.proofs.judge.judge.Goals as goal

pub invariant_of-result : goal.invariant_of-result
unfolding judged front_cases row_cases decided
invariant_of-result c = record { accepted = search rules }

pub returns-in-Some : goal.returns-in-Some
unfolding judged front_cases row_cases decided
returns-in-Some c = search rules
