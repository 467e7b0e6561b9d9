-- `Sheet::show_all` meets its contract. Assumes nothing.
use Prim.Native.Nat.{ℕ, zero, ◌+◌, ◌-◌, ◌*◌}
use mathlib.Core.Path.{◌≡◌, sym, ap, ◌∙◌}
use native.Mathlib.Omega.{arith}
use borrow.Author.Rules.{rules}
use lib.ListN.{length, replicate}
use lib.Seq.{paste}
use Rattle.sheet.specs.Sheets.{mark_words, all_marks}
use Rattle.sheet.specs.Changes.{marking}
use Rattle.sheet.proofs.Fills.{filled}
use Rattle.sheet.proofs.HidesAfter.{wiped-replicate}
use Rattle.sheet.proofs.Sheet.show_all.Goals as goal

pub returns : goal.returns
returns c =
    let s = c.args.self.now in
    let first = c.args.desk * mark_words in
    let long : length s.marks ≡ all_marks = search rules in
    let four : first + mark_words - first ≡ mark_words = omega arith in
    ap (marking s)
    (filled first (first + mark_words - first) s.marks c.fill.new.self (c.fill.ensures.after (λ y e. e)) (omega (arith, c.requires))
    ∙ ap (λ (n : ℕ). paste s.marks first (replicate n zero) n) four
    ∙ sym (wiped-replicate s.marks first mark_words (omega (arith, c.requires))))
