-- Soundness, test by test, as the code goes. Assumes nothing.
use Prim.Native.Nat.{ℕ, ◌+◌, ◌-◌, ◌≤◌}
use mathlib.Core.Path.{◌≡◌, refl, ap, ◌∙◌}
use mathlib.Core.Bool.{true, false, ◌&&◌}
use mathlib.Core.List.{List}
use native.Mathlib.Omega.{arith}
use lib.Dec.{leb}
use lib.ListN.{take}
use Rattle.std.specs.List.{list_all}
use borrow.Author.Tests.{leb-true}
use Rattle.sets.proofs.Bools.{and_left, and_right}
use Rattle.sets.specs.Limits.{most_desks, most_places, most_held, promised, most_rows, most_values}
use Rattle.theory.specs.Pairings.{at}
use Rattle.sheet.specs.declared.Sheet.{Sheet}
use Rattle.sheet.specs.Upto.{sum_to}
use Rattle.sheet.specs.Sheets.{held, shaped, placed, shared, marked_right, sound}
use Rattle.sheet.specs.Code.Surveys.{Counted}
use Rattle.sheet.proofs.UptoLaws.{all_ext, sum_ext, all_take}

module _ (s : Sheet) where
  pub wrong_shape : shaped s ≡ false → sound s ≡ false
  unfolding sound
  wrong_shape e = rw e refl

  -- its shape is right
  module _ (shape : shaped s ≡ true) where
    -- what the later tests ask for
    pub shape_few : (s.used ≤ most_places) × (s.desks ≤ most_desks)
    unfolding shaped
    shape_few =
        let numbers = leb 1 s.d && leb s.d most_values && leb s.rows most_rows && leb 1 s.desks in
        let desks = and_left (numbers && leb s.desks most_desks) (leb s.used most_places) shape in
        let used = and_right (numbers && leb s.desks most_desks) (leb s.used most_places) shape in
        (leb-true s.used most_places used, leb-true s.desks most_desks (and_right numbers (leb s.desks most_desks) desks))

    pub wrong_places : placed s ≡ false → sound s ≡ false
    unfolding sound
    wrong_places e = rw (shape, e) refl

    -- and its places are, so the rest is what the counts say, and the marks
    pub rest_says : placed s ≡ true → (counts : List ℕ) → Counted s counts
        → sound s
        ≡ (list_all (λ n. leb n most_held) (take s.desks counts) && leb (s.used + sum_to (λ k. promised - at counts k) s.desks) most_places
        && marked_right s)
    unfolding sound shared
    rest_says places counts c =
        let few : s.desks ≤ most_desks = shape_few.1 in
        let over =
        all_take (λ n. leb n most_held) counts s.desks (omega (arith, c.long))
        ∙ all_ext (λ k. leb (at counts k) most_held) (λ k. leb (held s k) most_held) s.desks
        (λ k h. ap (λ (n : ℕ). leb n most_held) (c.each k (omega arith))) in
        let owes =
        sum_ext (λ k. promised - at counts k) (λ k. promised - held s k) s.desks (λ k h. ap (λ (n : ℕ). promised - n) (c.each k (omega arith))) in
        rw (shape, places, over, owes) refl

-- what `Sheet::survey` cites
pub ruleset testing = (wrong_shape, shape_few, wrong_places)
