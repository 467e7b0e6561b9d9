-- Cases in the order of their numbers decide as the request says: a refusal is 'Given exactly when' its case applies and none of a lower number
-- does, as then the first of them is the lowest. Shown once, for any type of answer. Assumes nothing.
use Prim.Native.Nat.{ℕ, ◌<◌, ◌≤◌}
use mathlib.Core.Path.{◌≡◌, refl, subst, ◌∙◌}
use mathlib.Core.Logic.{◌↔◌, inl, inr}
use mathlib.Core.Bool.{false}
use mathlib.Core.List.{List, [], ◌∷◌}
use native.Mathlib.Omega.{arith}
use lib.Dec.{eqb}
use borrow.Author.Tests.{eqb-true, ne_eqb}
use Rattle.sets.proofs.Bools.{true_or_false, not_both}
use Rattle.refusals.specs.declared.Refusal.{Refusal}
use Rattle.refusals.specs.Refusals.{number}
use Rattle.refusals.specs.Cases.{Case, decided, applies, Given, First, Rising}
use Rattle.refusals.proofs.Outcomes.{outcome}
use Rattle.refusals.proofs.CaseNumbers.{has_case, EachOnce, Numbered, no_case_never, passed_over, none_never}
use Rattle.refusals.proofs.FirstInOrder.{later_first, gives_first, first_exactly_when}

-- ---- the numbers of such cases

-- none is as low as the one that the cases stand above
low_no_case : (k : ℕ) (cs : List Case) → Rising k cs → (n : ℕ) → n ≤ k → has_case cs n ≡ false
low_no_case k [] r n h = refl
low_no_case k (c ∷ cs) r n h =
    let other : eqb (number c.refusal) n ≡ false = ne_eqb (number c.refusal) n (λ e. omega (arith, r.0)) in
    rw other (low_no_case (number c.refusal) cs r.1 n (omega (arith, r.0)))

rising_once : (k : ℕ) (cs : List Case) → Rising k cs → EachOnce cs
rising_once k [] r = tt
rising_once k (c ∷ cs) r =
    let n = number c.refusal in (low_no_case n cs r.1 n (omega arith), rising_once n cs r.1)

pub rising_numbered : (k : ℕ) (cs : List Case) → Rising k cs → Numbered cs
rising_numbered k cs r = record { no_zero = low_no_case k cs r 0 (omega arith); once = rising_once k cs r }

-- ---- the first is the lowest

none_lower : (k : ℕ) (cs : List Case) → Rising k cs → (n : ℕ) → First cs n → (m : ℕ) → m < n → applies cs m ≡ false
unfolding applies
none_lower k [] rising n first m h = refl
none_lower k (c ∷ cs) rising n first m h = elim (true_or_false (eqb (number c.refusal) n)) [
  | inl same ↦
      (let e = eqb-true (number c.refusal) n same in
      let other : eqb (number c.refusal) m ≡ false = ne_eqb (number c.refusal) m (λ z. omega arith) in
      no_case_never (c ∷ cs) m (rw other (low_no_case (number c.refusal) cs rising.1 m (omega arith))))
  | inr other ↦
      (let rest = later_first c cs n other first in
      passed_over c cs rest.0 m ∙ none_lower (number c.refusal) cs rising.1 n rest.1 m h)
]

first_lowest : (k : ℕ) (cs : List Case) → Rising k cs → (n : ℕ) → First cs n → Given cs n
first_lowest k cs rising n first = (first.0, none_lower k cs rising n first)

one_given : (cs : List Case) (m n : ℕ) → Given cs m → Given cs n → m ≡ n
one_given cs m n f g =
    let not_lower : (m < n) → ⊥ = λ h. not_both f.0 (g.1 m h) in
    let not-higher : (n < m) → ⊥ = λ h. not_both g.0 (f.1 n h) in
    omega arith

lowest_first : (k : ℕ) (cs : List Case) → Rising k cs → (n : ℕ) → Given cs n → First cs n
lowest_first k cs rising n given = elim (outcome cs) [
  | inl none ↦ absurd (not_both given.0 (none_never cs none n))
  | inr (r, g) ↦
      (let first = gives_first cs r g in
      subst (First cs) (one_given cs (number r) n (first_lowest k cs rising (number r) first) given) first)
]

-- ---- of any answer

module _ {A : Type 0} (refused : Refusal → A) (number_of : A → ℕ) (tells : (r : Refusal) → number_of (refused r) ≡ number r) (a : A)
    (accepts : number_of a ≡ 0) (k : ℕ) (cs : List Case) (rising : Rising k cs) where
  -- a refusal is given exactly when its case applies and none of a lower number does
  pub given_exactly_when : (n : ℕ) → 0 < n → (number_of (decided refused cs a) ≡ n) ↔ Given cs n
  given_exactly_when n h =
      let first = first_exactly_when refused number_of tells a accepts cs (rising_numbered k cs rising) n h in
      (λ e. first_lowest k cs rising n (first.0 e), λ given. first.1 (lowest_first k cs rising n given))
