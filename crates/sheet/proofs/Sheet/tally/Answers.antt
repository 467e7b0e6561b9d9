-- `Sheet::tally` meets its contract. The invariant: the places before the next are right and counted. Assumes nothing.
use mathlib.Core.Path.{◌≡◌}
use mathlib.Core.Bool.{true, false}
use native.Mathlib.Numerals.{unary_clauses}
use native.Mathlib.Omega.{arith}
use Rattle.sheet.specs.Sheets.{owned}
use Rattle.sheet.proofs.Surveying.{tally_start, tally_wrong, tally_more}
use Rattle.sheet.proofs.Sheet.tally.Goals as goal

pub loop-place-init : goal.loop-place-init
loop-place-init c = tally_start c.args.self.now

pub returns-then-self-owner : goal.returns-then-self-owner
returns-then-self-owner c =
    let s = c.args.self.now in
    let i = c.loop-place.place in
    let bad : owned s i ≡ false = grind arith in
    tally_wrong s i c.loop-place-test.true bad

pub loop-place-preserved : goal.loop-place-preserved
loop-place-preserved c =
    let l = c.loop-place in
    let good : owned c.args.self.now l.place ≡ true = grind arith in
    simp unary_clauses (tally_more l.invariant (omega (arith, c.if-self-owner.false, c.requires.1)) good)
