-- `sets::lent::bad_row` meets its contract. The invariant: the rows from i on decide. Assumes nothing.
use Prim.Native.Nat.{ℕ, ◌≤◌, ◌<◌}
use mathlib.Core.Path.{refl, sym, ap, ◌∙◌, subst}
use native.Mathlib.Omega.{arith}
use Rattle.sets.specs.Sets.{within}
use Rattle.sets.specs.Tables.{bad_row}
use Rattle.sets.proofs.BadRows.{bad_here, bad_next, bad_end}
use Rattle.sets.proofs.lent.bad_row.Goals as goal

pub loop-i-init : goal.loop-i-init
unfolding bad_row
loop-i-init c = (omega arith, refl)

pub returns-then-not-within : goal.returns-then-not-within
returns-then-not-within c =
    let at = c.before in
    let here = subst (λ (n : ℕ). at.loop-i.i < n) at.row_count-i-end.ensures at.loop-i-test.true in
    let bad = sym (c.within.ensures ∙ ap (within _) c.row_at.ensures.0) ∙ c.if-not-within.true in
    sym (at.loop-i.invariant.1 ∙ bad_here _ _ _ here bad)

pub loop-i-preserved : goal.loop-i-preserved
loop-i-preserved c =
    let at = c.before in
    let here = subst (λ (n : ℕ). at.loop-i.i < n) at.row_count-i-end.ensures at.loop-i-test.true in
    let good = sym (c.within.ensures ∙ ap (within _) c.row_at.ensures.0) ∙ c.if-not-within.false in
    (omega arith, at.loop-i.invariant.1 ∙ bad_next _ _ _ here good)

pub returns : goal.returns
returns c =
    let over = subst (λ (n : ℕ). n ≤ c.loop-i.i) c.row_count-i-end.ensures c.loop-i-test.false in
    sym (c.loop-i.invariant.1 ∙ bad_end _ _ _ over)
