-- `Sheet::rest_empty` meets its contract. Assumes nothing.
use Prim.Native.Nat.{◌<◌}
use mathlib.Core.Path.{◌≡◌}
use native.Mathlib.Omega.{arith}
use borrow.Author.Rules.{rules}
use lib.ListN.{length}
use Rattle.std.proofs.lemmas.Iterator.{serves_from_Range}
use Rattle.sets.specs.Limits.{most_places}
use Rattle.sets.specs.Rows.{rows_of}
use Rattle.sheet.proofs.PlaceRows.{place_rows}
use Rattle.sheet.proofs.Sheet.rest_empty.Goals as goal

pub all-requires-clause-callable : goal.all-requires-clause-callable
all-requires-clause-callable c =
    let s = c.args.self.now in
    let many : length (rows_of s.sets) ≡ most_places = place_rows s.sets (search rules) in
    serves_from_Range (λ x q k. search rules) (λ x a b. let few : x < length (rows_of s.sets) = omega arith in search rules)
