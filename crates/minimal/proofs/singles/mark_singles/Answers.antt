-- `minimal::mark_singles` meets its contract. The invariant: the rows before `i` are passed. Assumes nothing.
use Prim.Native.Nat.{◌<◌}
use mathlib.Core.Path.{◌≡◌, sym, ap, ◌∙◌}
use native.Mathlib.Omega.{arith}
use lib.Bits.{bit_or}
use lib.ListN.{length}
use Rattle.sets.specs.Rows.{bits, rows_of}
use Rattle.minimal.proofs.Apart.{meets_no, meets_yes}
use Rattle.minimal.proofs.SingleRows.{pass_start, pass_other, pass_again, pass_new, pass_done}
use Rattle.minimal.proofs.singles.mark_singles.Goals.{then-is_single+then-not-meets, else-is_single}
use Rattle.minimal.proofs.singles.mark_singles.Goals.{else-is_single-via-then-is_single+else-not-meets, else-is_single-via-else-is_single}
use Rattle.minimal.proofs.singles.mark_singles.Goals as goal

pub loop-i-init : goal.loop-i-init
loop-i-init c = rw c.empty-singles.ensures.0 (pass_start _ _ c.requires.0 c.requires.1)

pub loop-i-preserved : goal.loop-i-preserved
loop-i-preserved c =
    let l = c.loop-i in
    let here : l.i < length (rows_of c.args.rows.now) = omega arith in
    let same = c.row_at-x.ensures.0 in
    elim c.if-is_single.branch [
      | then-is_single+then-not-meets w ↦
          let value = c.is_single.ensures.one w.if-is_single.true in
          let apart = meets_no (bits l.singles) same w.meets.ensures w.if-not-meets.true in
          let more = w.either-singles.ensures ∙ ap (bit_or (bits l.singles)) same in
          rw (w.keep-is, w.singles-is, more) (pass_new l.invariant here value.0 (sym same ∙ value.1) c.requires.2 apart)
      | else-is_single w ↦ rw (w.keep-is, w.singles-is) (elim w.else-is_single.branch [
        | else-is_single-via-then-is_single+else-not-meets w' ↦
            let value = c.is_single.ensures.one w'.if-is_single.true in
            let common = meets_yes (bits l.singles) same w'.meets.ensures w'.if-not-meets.false in
            pass_again l.invariant here value.0 (sym same ∙ value.1) common
        | else-is_single-via-else-is_single w' ↦
            pass_other l.invariant here (λ v e. c.is_single.ensures.more w'.if-is_single.false v (same ∙ e))
      ])
    ]

pub returns : goal.returns
returns c =
    let all : c.loop-i.i ≡ length (rows_of c.args.rows.now) = omega arith in
    let P = rw all at c.loop-i.invariant in
    (P.singles, pass_done P)
