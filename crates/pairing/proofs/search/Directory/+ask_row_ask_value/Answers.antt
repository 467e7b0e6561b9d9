-- `ask_row` and `ask_value`, which ask each other, meet their contracts. Assumes nothing.
use mathlib.Core.Path.{◌≡◌, sym, ap, subst, ◌∙◌}
use mathlib.Core.Logic.{◌≢◌}
use mathlib.Core.Bool.{true}
use Prim.Native.Nat.{ℕ, zero, suc, ◌-◌}
use native.Mathlib.Omega.{arith}
use Rattle.sets.specs.Sets.{has, minus}
use Rattle.sets.specs.Rows.{width, bits, rows_of}
use Rattle.sets.proofs.Values.{with_new}
use Rattle.sets.proofs.RowValues.{top_row, top_row_none}
use Rattle.theory.specs.Pairings.{at}
use Rattle.pairing.specs.Code.Asking.{unasked, Asks}
use Rattle.pairing.proofs.AskSteps.{row_takes, row_asks, row_moved, row_stays}
use Rattle.pairing.proofs.AskSteps.{turn_end, turn_row, turn_less, turn_falls, turn_pass, turn_found, turn_again}
use Rattle.pairing.proofs.search.Directory.+ask_row_ask_value.Goals.{ask_row-then-w-eq0-via-then-w-eq0}
use Rattle.pairing.proofs.search.Directory.+ask_row_ask_value.Goals.{ask_row-then-w-eq0-via-else-w-eq0+then-ask_value, ask_value-In-Some}
use Rattle.pairing.proofs.search.Directory.+ask_row_ask_value.Goals as goal

-- ---- row i is asked to take v

pub ask_row-returns-then-w-eq0 : goal.ask_row-returns-then-w-eq0
ask_row-returns-then-w-eq0 t c =
    let mate = at c.args.mates.now c.args.i in
    let bounds = c.requires.i_in_bounds in
    elim c.then-w-eq0.branch [
      | ask_row-then-w-eq0-via-then-w-eq0 w ↦
          rw (w.mates-is, w.asked-is) (row_takes c.requires.asks c.args.i bounds.0 bounds.1 (bits c.args.asked.now) w.if-w-eq0.true)
      | ask_row-then-w-eq0-via-else-w-eq0+then-ask_value w ↦
          let present : mate ≡ suc (mate - 1) = omega (arith, w.if-w-eq0.false) in
          rw (w.mates-is, w.asked-is)
          (row_moved c.requires.asks c.args.i bounds.0 bounds.1 present w.ask_value.ensures w.if-ask_value.true)
    ]

pub ask_row-ask_value-requires : goal.ask_row-ask_value-requires
ask_row-ask_value-requires t c =
    let mate = at c.args.mates.now c.args.i in
    let present : mate ≡ suc (mate - 1) = omega (arith, c.if-w-eq0.false) in
    (omega arith, row_asks c.requires.asks c.args.i c.requires.i_in_bounds.0 c.requires.i_in_bounds.1 present)

pub ask_row-returns : goal.ask_row-returns
ask_row-returns t c =
    let mate = at c.args.mates.now c.args.i in
    let present : mate ≡ suc (mate - 1) = omega (arith, c.if-w-eq0.false) in
    row_stays c.requires.asks c.args.i c.requires.i_in_bounds.0 c.requires.i_in_bounds.1 present c.requires.i_in_bounds.2 c.ask_value.ensures
    c.if-ask_value.false

-- ---- v asks the rows that hold it

-- row i is left, and not asked yet
next : {t : ℕ} (c : ask_value-In-Some t) → has (minus (bits c.loop-i.left) (bits c.loop-i.asked)) c.in-Some.i ≡ true
next c =
    let some : c.top.result ≢ zero = omega (arith, c.in-Some.ensures) in
    let is : c.top.result - 1 ≡ c.in-Some.i = omega (arith, c.in-Some.ensures) in
    rw (c.minus.ensures, is) at (top_row c.minus.result c.top.result c.top.ensures some).1

pub ask_value-row_at-requires-in-Some : goal.ask_value-row_at-requires-in-Some
ask_value-row_at-requires-in-Some t c =
    turn_row c.loop-i.invariant c.in-Some.i (next (goal.at.ask_value-row_at-requires-in-Some t c).In-Some)

pub ask_value-ask_row-requires : goal.ask_value-ask_row-requires
ask_value-ask_row-requires t c =
    let i = c.in-Some.i in
    let next-i = next (goal.at.ask_value-ask_row-requires t c).In-Some in
    let holds = c.has.ensures ∙ ap (λ (x : ℕ). has x c.args.v) c.row_at-in-Some.ensures.0 in (
      omega (arith, turn_falls c.loop-i.invariant i next-i c.requires.few, ap (unasked width) c.with.ensures),
      (
        subst (Asks c.args.v (rows_of c.args.self.rows.now) (rows_of c.args.self.columns.now) (bits c.args.self.heavy))
            (sym c.loop-i.invariant.stuck.still) c.requires,
        (
          turn_row c.loop-i.invariant i next-i,
          sym holds ∙ c.if-has.true,
          ap (λ (x : ℕ). has x i) c.with.ensures ∙ with_new (bits c.loop-i.asked) i,
        ),
      ),
    )

pub ask_value-returns-then-ask_row : goal.ask_value-returns-then-ask_row
ask_value-returns-then-ask_row t c =
    turn_found c.loop-i.invariant c.in-Some.i (next (goal.at.ask_value-returns-then-ask_row t c).In-Some)
    (rw c.with.ensures at c.ask_row.ensures) c.if-ask_row.true

pub ask_value-loop-i-smaller-else-ask_row : goal.ask_value-loop-i-smaller-else-ask_row
ask_value-loop-i-smaller-else-ask_row t c =
    let next-i = next (goal.at.ask_value-loop-i-smaller-else-ask_row t c).In-Some in
    omega (arith, c.without-left.ensures, turn_less c.loop-i.invariant c.in-Some.i next-i)

pub ask_value-loop-i-preserved-else-ask_row : goal.ask_value-loop-i-preserved-else-ask_row
ask_value-loop-i-preserved-else-ask_row t c =
    let next-i = next (goal.at.ask_value-loop-i-preserved-else-ask_row t c).In-Some in
    rw c.without-left.ensures (turn_again c.loop-i.invariant c.in-Some.i next-i (rw c.with.ensures at c.ask_row.ensures) c.if-ask_row.false)

pub ask_value-loop-i-smaller : goal.ask_value-loop-i-smaller
ask_value-loop-i-smaller t c =
    let next-i = next (goal.at.ask_value-loop-i-smaller t c).In-Some in
    omega (arith, c.without-left.ensures, turn_less c.loop-i.invariant c.in-Some.i next-i)

pub ask_value-loop-i-preserved : goal.ask_value-loop-i-preserved
ask_value-loop-i-preserved t c =
    let next-i = next (goal.at.ask_value-loop-i-preserved t c).In-Some in
    let holds = c.has.ensures ∙ ap (λ (x : ℕ). has x c.args.v) c.row_at-in-Some.ensures.0 in
    rw c.without-left.ensures (turn_pass c.loop-i.invariant c.in-Some.i next-i (sym holds ∙ c.if-has.false))

pub ask_value-returns : goal.ask_value-returns
ask_value-returns t c =
    let none : c.top.result ≡ zero = omega (arith, c.in_default.ensures) in
    turn_end c.loop-i.invariant (sym c.minus.ensures ∙ top_row_none c.minus.result _ c.top.ensures none)
