-- `Sheet::survey` meets its contract: each test leaves what the next one asks for. Assumes nothing.
use mathlib.Core.Path.{◌≡◌, sym, ◌∙◌, subst}
use native.Mathlib.Omega.{arith}
use Rattle.sheet.specs.Sheets.{sound}
use Rattle.sheet.specs.Code.Surveys.{Surveyed}
use Rattle.sheet.proofs.Checking.{rest_says}
use Rattle.sheet.proofs.Surveying.{surveyed}
use Rattle.sheet.proofs.Sheet.survey.Goals as goal

pub returns : goal.returns
returns c =
    let s = c.args.self.now in
    let counts = c.in_ok-counts.counts in
    let learnt = c.in_ok-counts.ensures in
    let whole = rest_says s (sym c.shaped.ensures ∙ c.if-not-shaped.false) learnt.0 counts learnt.1 in
    let right : sound s ≡ c.if-self-owed-le-PLACES.right = grind (arith, whole) in
    subst (Surveyed sound s) (sym c.then_some.ensures) (surveyed sound s counts _ right learnt.1)
