-- `offer_seats` meets its contract: one row more is passed by in each turn of the loop. Assumes nothing.
use Prim.Native.Nat.{◌-◌, ◌<◌}
use mathlib.Core.Path.{sym, ◌∙◌}
use native.Mathlib.Nat.{le_refl}
use native.Mathlib.Omega.{arith}
use borrow.Author.Tests.{eqb-true}
use lib.ListN.{length}
use Rattle.sets.specs.Rows.{rows_of}
use Rattle.pairing.proofs.SeatSteps.{seat_passed}
use Rattle.distinct.proofs.Offers.{marks_same, marks_other, offering_start, offering_long, offering_end}
use Rattle.distinct.proofs.Offers.{offering_other, offering_told, offering_passed, offering_full}
use Rattle.distinct.proofs.steps.offer_seats.Goals.{then-keep-i+then-not-hopeless, then-keep-i+else-not-hopeless, else-keep-i}
use Rattle.distinct.proofs.steps.offer_seats.Goals as goal

pub loop-i-init : goal.loop-i-init
loop-i-init c = offering_start c.args.marked c.requires

pub returns-then-is_empty : goal.returns-then-is_empty
returns-then-is_empty c =
    let many = length (rows_of c.args.view.now) in
    let none = eqb-true _ _ (sym c.is_empty.ensures ∙ c.if-is_empty.true) in
    offering_end _ (offering_full _ c.loop-i.i (many - c.loop-i.i) (omega arith) none c.loop-i.invariant) (le_refl _)

pub bounds-keep-i : goal.bounds-keep-i
bounds-keep-i c = omega (arith, offering_long _ c.loop-i.invariant)

pub bounds-keep-i-then-not-hopeless : goal.bounds-keep-i-then-not-hopeless
bounds-keep-i-then-not-hopeless c = omega (arith, offering_long _ c.loop-i.invariant)

pub bounds-keep-i-then-not-hopeless-2 : goal.bounds-keep-i-then-not-hopeless-2
bounds-keep-i-then-not-hopeless-2 c = omega (arith, offering_long _ c.loop-i.invariant)

pub loop-i-preserved : goal.loop-i-preserved
loop-i-preserved c =
    let O = c.loop-i.invariant in
    let here : c.loop-i.i < length (rows_of c.args.view.now) = omega arith in
    elim c.if-keep-i.branch [
      | then-keep-i+then-not-hopeless w ↦
          let told = w.offer.ensures in
          let seat = rw w.row_at-row.ensures.0 at told.seat in
          rw (w.keep-is, w.seats-is) (offering_told here seat _ O (marks_same _ _ w.if-keep-i.true) _ told.more told.same)
      | then-keep-i+else-not-hopeless w ↦
          let why = rw w.row_at-row.ensures.0 at (w.hopeless.ensures.why w.if-not-hopeless.false) in
          rw (w.keep-is, w.seats-is) (offering_passed here (seat_passed O.pairs.sits why) _ O (marks_same _ _ w.if-keep-i.true) (le_refl _))
      | else-keep-i w ↦ rw (w.keep-is, w.seats-is) (offering_other here _ O (marks_other _ _ w.if-keep-i.false))
    ]

pub returns : goal.returns
returns c = offering_end _ c.loop-i.invariant (omega arith)
