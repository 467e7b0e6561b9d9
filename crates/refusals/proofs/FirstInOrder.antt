-- Cases decide in the order in which they stand: a refusal is given exactly when its case applies and none that is tried before it does. Shown
-- once, for any type of answer. Assumes nothing.
use Prim.Native.Nat.{ℕ, ◌<◌}
use mathlib.Core.Path.{◌≡◌, refl, sym, ap, subst, ◌∙◌}
use mathlib.Core.Logic.{◌↔◌, inl, inr}
use mathlib.Core.Bool.{true, false, false≢true}
use mathlib.Core.List.{List, [], ◌∷◌, Memᴰ}
use native.Mathlib.Omega.{arith}
use lib.Dec.{eqb}
use borrow.Author.Tests.{eqb-true}
use Rattle.sets.proofs.Bools.{true_or_false, not_both}
use Rattle.refusals.specs.declared.Refusal.{Refusal}
use Rattle.refusals.specs.Refusals.{number}
use Rattle.refusals.specs.Cases.{Case, decided, applies, tried_before, First}
use Rattle.refusals.proofs.Outcomes.{NoneApplies, Gives, outcome, stands, refuses}
use Rattle.refusals.proofs.CaseNumbers.{has_case, EachOnce, Numbered, same_number, case_there, given_there}
use Rattle.refusals.proofs.CaseNumbers.{no_case_never, passed_over, not_here, only_here}

-- ---- which number comes first

-- one of a later case, where the first case does not apply
pub later_first : (c : Case) (cs : List Case) (n : ℕ) → eqb (number c.refusal) n ≡ false → First (c ∷ cs) n → (c.applies ≡ false) × First cs n
unfolding tried_before
later_first c cs n other first =
    let none : (m : ℕ) → applies (c ∷ tried_before cs n) m ≡ false = rw other at first.1 in
    let passed = not_here c (tried_before cs n) (none (number c.refusal)) in
    (passed, (sym (passed_over c cs passed n) ∙ first.0, λ m. sym (passed_over c (tried_before cs n) passed m) ∙ none m))

-- that of the refusal that is given
pub gives_first : (cs : List Case) (r : Refusal) → Gives cs r → First cs (number r)
unfolding tried_before applies
gives_first [] r g = absurd g
gives_first (c ∷ cs) r (inl (e, same)) =
    let here : First (c ∷ cs) (number c.refusal) =
    (rw (same_number (number c.refusal), e) refl, λ m. rw (same_number (number c.refusal)) refl) in
    subst (λ (s : Refusal). First (c ∷ cs) (number s)) same here
gives_first (c ∷ cs) r (inr (e, later)) =
    let first = gives_first cs r later in (
      passed_over c cs e (number r) ∙ first.0,
      λ m. elim (true_or_false (eqb (number c.refusal) (number r))) [
        | inl same ↦ rw same refl
        | inr other ↦ rw other (passed_over c (tried_before cs (number r)) e m ∙ first.1 m)
      ],
    )

-- and no other
first_gives : (cs : List Case) → EachOnce cs → (n : ℕ) → First cs n → (r : Refusal) × Gives cs r × (number r ≡ n)
unfolding applies
first_gives [] once n first = absurd (false≢true first.0)
first_gives (c ∷ cs) once n first = elim (true_or_false (eqb (number c.refusal) n)) [
  | inl same ↦
      (let e = eqb-true (number c.refusal) n same in
      let no-later = no_case_never cs n (subst (λ (m : ℕ). has_case cs m ≡ false) e once.0) in
      (c.refusal, inl (only_here c cs n no-later first.0, refl), e))
  | inr other ↦
      (let rest = later_first c cs n other first in
      let given = first_gives cs once.1 n rest.1 in
      (given.0, inr (rest.0, given.1), given.2))
]

-- ---- which case gives it

-- the one that has the number
own_case : (cs : List Case) → EachOnce cs → (x : Case) → Memᴰ x cs → (r : Refusal) → Gives cs r → number r ≡ number x.refusal
    → (x.applies ≡ true) × (x.refusal ≡ r)
own_case [] once x m r g e = absurd g
own_case (c ∷ cs) once x (Memᴰ.head here) r (inl (t, same)) e = rw here (t, same)
own_case (c ∷ cs) once x (Memᴰ.tail m) r (inl (t, same)) e =
    absurd (not_both (rw (sym (ap number same ∙ e)) at (case_there cs m)) once.0)
own_case (c ∷ cs) once x (Memᴰ.head here) r (inr (f, later)) e =
    absurd (not_both (rw (e ∙ ap (λ (y : Case). number y.refusal) here) at (given_there cs r later)) once.0)
own_case (c ∷ cs) once x (Memᴰ.tail m) r (inr (f, later)) e = own_case cs once.1 x m r later e

-- ---- of any answer

module _ {A : Type 0} (refused : Refusal → A) (number_of : A → ℕ) (tells : (r : Refusal) → number_of (refused r) ≡ number r) (a : A)
    (accepts : number_of a ≡ 0) (cs : List Case) (numbered : Numbered cs) where
  told : (r : Refusal) → Gives cs r → number_of (decided refused cs a) ≡ number r
  told r g = ap number_of (refuses refused cs r g a) ∙ tells r

  untold : NoneApplies cs → number_of (decided refused cs a) ≡ 0
  untold none = ap number_of (stands refused cs none a) ∙ accepts

  -- a refusal is given exactly when its case applies and none that is tried before it does
  pub first_exactly_when : (n : ℕ) → 0 < n → (number_of (decided refused cs a) ≡ n) ↔ First cs n
  first_exactly_when n h = (
    λ e. elim (outcome cs) [
      | inl none ↦ absurd (omega (arith, untold none))
      | inr (r, g) ↦ subst (First cs) (sym (told r g) ∙ e) (gives_first cs r g)
    ],
    λ first. let given = first_gives cs numbered.once n first in told given.0 given.1 ∙ given.2,
  )

  -- and then it is that case's own refusal, with its row
  pub own_refusal : (x : Case) → Memᴰ x cs → number_of (decided refused cs a) ≡ number x.refusal
      → (x.applies ≡ true) × (decided refused cs a ≡ refused x.refusal)
  own_refusal x m e = elim (outcome cs) [
    | inl none ↦ absurd (not_both (rw (sym e ∙ untold none) at (case_there cs m)) numbered.no_zero)
    | inr (r, g) ↦
        (let own = own_case cs numbered.once x m r g (sym (told r g) ∙ e) in (own.0, refuses refused cs r g a ∙ ap refused (sym own.1)))
  ]

  -- number 0 is given where no case applies, and then the answer stands
  pub none_given : number_of (decided refused cs a) ≡ 0 → NoneApplies cs × (decided refused cs a ≡ a)
  none_given e = elim (outcome cs) [
    | inl none ↦ (none, stands refused cs none a)
    | inr (r, g) ↦ absurd (not_both (rw (sym (told r g) ∙ e) at (given_there cs r g)) numbered.no_zero)
  ]
