-- `big` meets its contract. The invariant: the value is that of the bytes before the next. Assumes nothing.
use Prim.Native.Nat.{ℕ, ◌+◌, ◌*◌}
use mathlib.Core.Path.{refl, sym, ap, ◌∙◌}
use native.Mathlib.Omega.{arith}
use lib.ListN.{get_or}
use Rattle.files.specs.Bytes.{big}
use Rattle.files.proofs.ByteLaws.{cap, cap_fits, cap_next, big_next}
use Rattle.files.proofs.numbers.big.Goals as goal

pub loop-next-init : goal.loop-next-init
unfolding big cap
loop-next-init c = (omega arith, refl, omega arith)

pub overflow_mul-value : goal.overflow_mul-value
overflow_mul-value c =
    let l = c.loop-next in
    let fits = cap_fits (l.next + 1) (omega (arith, c.loop-next-test.true, c.requires.0)) in
    record { fits = omega (arith, cap_next l.value 0 l.next l.invariant.2 (omega arith), fits) }

pub overflow_add-value-in-loop-next : goal.overflow_add-value-in-loop-next
overflow_add-value-in-loop-next c =
    let l = c.loop-next in
    let b = get_or c.args.file.now (c.args.from + l.next) 0 in
    let byte = (c.shared_slice_known-1.given (c.args.from + l.next)).fits in
    let less = cap_next l.value b l.next l.invariant.2 byte in
    record { fits = omega (arith, less, cap_fits (l.next + 1) (omega (arith, c.loop-next-test.true, c.requires.0))) }

pub loop-next-preserved : goal.loop-next-preserved
loop-next-preserved c =
    let l = c.loop-next in
    let b = get_or c.args.file.now (c.args.from + l.next) 0 in
    let byte = (c.shared_slice_known-1.given (c.args.from + l.next)).fits in
    let less = cap_next l.value b l.next l.invariant.2 byte in
    let next = sym (big_next c.args.file.now c.args.from l.next) in
    (omega (arith, c.loop-next-test.true), ap (λ (v : ℕ). v * 256 + b) l.invariant.1 ∙ next, less)
