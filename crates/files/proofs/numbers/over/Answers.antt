-- `over` meets its contract. The invariant: no row before the next has a value d or above. Assumes nothing.
use Prim.Native.Nat.{ℕ, ◌+◌, ◌-◌}
use mathlib.Core.Path.{◌≡◌, refl, sym, ap, ◌∙◌}
use mathlib.Core.Bool.{Bool, not}
use native.Mathlib.Omega.{arith}
use Rattle.sets.specs.Sets.{below}
use Rattle.files.specs.Rows.{lowest_to}
use Rattle.files.specs.Files.{row_in}
use Rattle.files.proofs.RowLaws.{lowest_here, lowest_pass, lowest_stays}
use Rattle.files.proofs.numbers.over.Goals as goal

pub loop-next-init : goal.loop-next-init
unfolding lowest_to
loop-next-init c = (omega arith, refl)

pub returns-then-not-below : goal.returns-then-not-below
returns-then-not-below c = let l = c.loop-next in
    let f : ℕ → Bool = λ i. not (below c.args.d (row_in c.args.file.now i)) in
    let here = ap (λ (r : ℕ). not (below c.args.d r)) (sym c.row.ensures.0)
    ∙ ap not (sym c.below.ensures) ∙ c.if-not-below.true-raw in
    let k = c.args.n - (l.next + 1) in
    let all : k + (l.next + 1) ≡ c.args.n = omega (arith, c.loop-next-test.true) in
    sym (lowest_stays f (l.next + 1) k l.next (lowest_here f l.next l.invariant.1 here)) ∙ ap (lowest_to f) all

pub loop-next-preserved : goal.loop-next-preserved
loop-next-preserved c = let l = c.loop-next in
    let f : ℕ → Bool = λ i. not (below c.args.d (row_in c.args.file.now i)) in
    let here = ap (λ (r : ℕ). not (below c.args.d r)) (sym c.row.ensures.0)
    ∙ ap not (sym c.below.ensures) ∙ c.if-not-below.false-raw in
    (omega (arith, c.loop-next-test.true), lowest_pass f l.next l.invariant.1 here)
