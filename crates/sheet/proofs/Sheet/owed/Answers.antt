-- `Sheet::owed` meets its contract. Assumes nothing.
use Prim.Native.Nat.{ℕ, ◌-◌, ◌*◌, ◌≤◌}
use mathlib.Core.Path.{◌≡◌, ◌∙◌}
use mathlib.Core.List.{List}
use native.Mathlib.Omega.{arith}
use borrow.Author.Rules.{rules}
use borrow.Author.Tests.{tests}
use Rattle.std.proofs.lemmas.Iterator.{YieldsList-from_slice, YieldsList-from_map}
use Rattle.std.proofs.lemmas.Iterator.Consumers.{YieldsList-at, fits_by_from_yields_list}
use Rattle.std.specs.List.{sum_by}
use lib.ListN.{length, take}
use Rattle.sets.specs.Limits.{most_desks, promised}
use Rattle.theory.specs.Pairings.{at}
use Rattle.sheet.specs.Upto.{sum_to}
use Rattle.sheet.proofs.UptoLaws.{sum_take, sum_most}
use Rattle.sheet.proofs.Sheet.owed.Goals as goal

-- each desk is owed 8 at most
few : (counts : List ℕ) (desks : ℕ) → desks ≤ most_desks → sum_to (λ k. promised - at counts k) desks ≤ most_desks * promised
few counts desks h = omega (arith, sum_most (λ k. promised - at counts k) desks promised (λ k l. omega arith))

pub sum-requires-clause-fits : goal.sum-requires-clause-fits
sum-requires-clause-fits c =
    let counts = c.args.counts.now in
    let desks = c.args.self.now.desks in
    let long : length counts ≡ most_desks = search rules in
    let total = sum_take (λ (n : ℕ). promised - n) counts desks (omega (arith, c.requires)) in
    let source = YieldsList-at c.map.ensures.source (YieldsList-from_slice (take desks counts) c.iter.ensures.rest) in
    fits_by_from_yields_list _ _ c.map.result _
    (YieldsList-from_map _ (λ (n : ℕ). promised - n) source c.map.ensures.closure (λ x r q k. search (rules, tests)))
    (omega (arith, total, few counts desks c.requires))

pub returns-clause-value : goal.returns-clause-value
returns-clause-value c =
    let counts = c.args.counts.now in
    let desks = c.args.self.now.desks in
    let long : length counts ≡ most_desks = search rules in
    let all : c.sum.result ≡ sum_by (λ (n : ℕ). promised - n) (take desks counts) = search rules in
    all ∙ sum_take (λ (n : ℕ). promised - n) counts desks (omega (arith, c.requires))

pub returns-clause-upper_bound : goal.returns-clause-upper_bound
returns-clause-upper_bound c = omega (arith, returns-clause-value c, few c.args.counts.now _ c.requires)
