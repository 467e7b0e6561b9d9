-- A scan of the minimal rows found so far for a subset of a row, one by one and four at a time. Assumes nothing.
use Prim.Native.Nat.{ℕ, zero, ◌+◌, ◌-◌, ◌^◌, ◌<◌}
use mathlib.Core.Path.{◌≡◌, refl, sym, ap, ◌∙◌}
use mathlib.Core.Logic.{inl, inr, ◌⊎◌}
use mathlib.Core.Bool.{Bool, true, false, not, ◌||◌, true≢false, false≢true}
use mathlib.Core.List.{List}
use native.Mathlib.Decide.{ℕ_discrete}
use native.Mathlib.Omega.{arith}
use lib.Bits.{bit_and}
use lib.Dec.{eqb}
use borrow.Author.Tests.{not-true, not-false}
use Rattle.sets.specs.Sets.{subset, minus}
use Rattle.sets.specs.Rows.{width, rows_of}
use Rattle.sets.proofs.ValuesBelow.{subset_outside}
use Rattle.sets.proofs.LentRows.{rows_less}
use Rattle.theory.specs.Pairings.{at}
use Rattle.minimal.specs.Code.Marking.{Scanned}

-- row m of mins has a value of `others`
abbrev pub meets : List ℕ → ℕ → ℕ → Bool
meets mins others m = not (eqb (bit_and (at mins m) others) zero)

-- and so have the first n rows
abbrev pub AllMeet : List ℕ → ℕ → ℕ → Type 0
AllMeet mins others n = (m : ℕ) → m < n → meets mins others m ≡ true

-- ---- four rows

one_not : (a b c d : Bool) → (((not a || not b) || not c) || not d) ≡ true → (a ≡ false) ⊎ ((b ≡ false) ⊎ ((c ≡ false) ⊎ (d ≡ false)))
one_not false b c d e = inl refl
one_not true false c d e = inr (inl refl)
one_not true true false d e = inr (inr (inl refl))
one_not true true true false e = inr (inr (inr refl))
one_not true true true true e = absurd (false≢true e)

all_are : (a b c d : Bool) → (((not a || not b) || not c) || not d) ≡ false → (a ≡ true) × (b ≡ true) × (c ≡ true) × (d ≡ true)
all_are false b c d e = absurd (true≢false e)
all_are true false c d e = absurd (true≢false e)
all_are true true false d e = absurd (true≢false e)
all_are true true true false e = absurd (true≢false e)
all_are true true true true e = (refl, refl, refl, refl)

module _ (mins : List ℕ) (others : ℕ) where
  pub meet_more : (n n' : ℕ) → n' ≡ n + 1 → AllMeet mins others n → meets mins others n ≡ true → AllMeet mins others n'
  meet_more n n' q met e m h = elim (ℕ_discrete m n) [ yes d ↦ ap (meets mins others) d ∙ e | no ne ↦ met m (omega arith) ]

  -- the answers of four tests
  module _ (n : ℕ) {a b c d : Bool} (p : a ≡ meets mins others n) (q : b ≡ meets mins others (n + 1))
      (r : c ≡ meets mins others (n + 2)) (s : d ≡ meets mins others (n + 3)) where
    pub four_none : (((not a || not b) || not c) || not d) ≡ false → AllMeet mins others n → AllMeet mins others (n + 4)
    four_none e met =
        let t = all_are a b c d e in
        meet_more (n + 3) (n + 4) (omega arith)
        (meet_more (n + 2) (n + 3) (omega arith)
        (meet_more (n + 1) (n + 2) (omega arith)
        (meet_more n (n + 1) refl met (sym p ∙ t.0)) (sym q ∙ t.1)) (sym r ∙ t.2)) (sym s ∙ t.3)

    pub four_some : (((not a || not b) || not c) || not d) ≡ true → (m : ℕ) × (m < n + 4) × (meets mins others m ≡ false)
    four_some e = elim (one_not a b c d e) [
      | inl f ↦ (n, omega arith, sym p ∙ f)
      | inr t ↦ elim t [
        | inl f ↦ (n + 1, omega arith, sym q ∙ f)
        | inr u ↦ elim u [ inl f ↦ (n + 2, omega arith, sym r ∙ f) | inr f ↦ (n + 3, omega arith, sym s ∙ f) ]
      ]
    ]

-- ---- the answer

-- `others` are the values that x has not
module _ (words : List ℕ) {all others : ℕ} (x : ℕ) (a : all ≡ 2 ^ width - 1) (o : others ≡ minus all x) (found : ℕ) where
  -- a row has none of them where it is a subset of x
  tells : (m : ℕ) → eqb (bit_and (at (rows_of words) m) others) zero ≡ subset (at (rows_of words) m) x
  tells m =
      ap (λ (y : ℕ). eqb (bit_and (at (rows_of words) m) y) zero) (o ∙ ap (λ (y : ℕ). minus y x) a)
      ∙ subset_outside width (at (rows_of words) m) x (rows_less words m)

  pub scan_some : (m : ℕ) → m < found → meets (rows_of words) others m ≡ false → Scanned false (rows_of words) found x
  scan_some m l e = record { none = λ t. absurd (false≢true t); some = λ _. (m, l, sym (tells m) ∙ not-false _ e) }

  pub scan_none : AllMeet (rows_of words) others found → Scanned true (rows_of words) found x
  scan_none met = record { none = λ _ m h. sym (tells m) ∙ not-true _ (met m h); some = λ t. absurd (true≢false t) }
