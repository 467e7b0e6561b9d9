-- `minimal::none_within` meets its contract. The invariant of both loops: each row before the next has a value that x has not. Assumes nothing.
use mathlib.Core.Path.{sym, ◌∙◌}
use native.Mathlib.Omega.{arith}
use Rattle.sets.specs.Rows.{bits, rows_of}
use Rattle.minimal.proofs.Apart.{read_meets}
use Rattle.minimal.proofs.Scans.{four_none, four_some, scan_some, scan_none}
use Rattle.minimal.proofs.sieve.none_within.Goals as goal

pub returns-then-a-b : goal.returns-then-a-b
returns-then-a-b c =
    let others = bits c.minus-others.result in
    let p = read_meets others c.row_at.ensures.0 c.meets-a.ensures in
    let q = read_meets others c.row_at-in-loop-four.ensures.0 c.meets-b.ensures in
    let r = read_meets others c.row_at-in-loop-four-2.ensures.0 c.meets-c.ensures in
    let s = read_meets others c.row_at-in-loop-four-3.ensures.0 c.meets-d.ensures in
    let miss = four_some (rows_of c.args.mins.now) others _ p q r s c.if-a-b.true in
    scan_some _ _ c.all.ensures.0 c.minus-others.ensures _ miss.0 (omega (arith, miss.1)) miss.2

pub loop-four-preserved : goal.loop-four-preserved
loop-four-preserved c =
    let others = bits c.minus-others.result in
    let p = read_meets others c.row_at.ensures.0 c.meets-a.ensures in
    let q = read_meets others c.row_at-in-loop-four.ensures.0 c.meets-b.ensures in
    let r = read_meets others c.row_at-in-loop-four-2.ensures.0 c.meets-c.ensures in
    let s = read_meets others c.row_at-in-loop-four-3.ensures.0 c.meets-d.ensures in
    λ m h. four_none (rows_of c.args.mins.now) others _ p q r s c.if-a-b.false c.loop-four.invariant m (omega arith)

pub returns-then-not-meets : goal.returns-then-not-meets
returns-then-not-meets c =
    let answer = read_meets (bits c.minus-others.result) c.row_at-in-loop-i.ensures.0 c.meets.ensures in
    scan_some _ _ c.all.ensures.0 c.minus-others.ensures _ _ c.loop-i-test.true (sym answer ∙ c.if-not-meets.true)

pub returns : goal.returns
returns c = scan_none _ _ c.all.ensures.0 c.minus-others.ensures _ (λ m h. c.loop-i.invariant m (omega arith))
