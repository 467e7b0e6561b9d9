-- The numbers of a list of cases: which have a case, and which apply. Assumes nothing.
use Prim.Native.Nat.{ℕ}
use mathlib.Core.Path.{◌≡◌, refl, sym, ◌∙◌}
use mathlib.Core.Logic.{inl, inr}
use mathlib.Core.Bool.{Bool, true, false, ◌&&◌, ◌||◌}
use mathlib.Core.List.Memᴰ
use mathlib.Core.List.{List, [], ◌∷◌, Memᴰ}
use lib.Dec.{eqb}
use borrow.Author.Tests.{eq-eqb}
use Rattle.sets.proofs.Bools.{or_right, true_or_false, not_both}
use Rattle.refusals.specs.declared.Refusal.{Refusal}
use Rattle.refusals.specs.Refusals.{number}
use Rattle.refusals.specs.Cases.{Case, applies}
use Rattle.refusals.proofs.Outcomes.{NoneApplies, Gives}
use Rattle.refusals.proofs.TablesJudged.{or_no}

-- ---- which numbers have a case

abbrev pub has_case : List Case → ℕ → Bool
has_case [] n = false
has_case (c ∷ cs) n = eqb (number c.refusal) n || has_case cs n

-- no number has two
abbrev pub EachOnce : List Case → Type 0
EachOnce [] = Unit {0}
EachOnce (c ∷ cs) = (has_case cs (number c.refusal) ≡ false) × EachOnce cs

-- and 0, the number of an answer that is no refusal, has none
pub record Numbered (cs : List Case) : Type 0 where
  pub no_zero : has_case cs 0 ≡ false
  pub once : EachOnce cs

pub same_number : (n : ℕ) → eqb n n ≡ true
same_number n = eq-eqb n n refl

pub case_there : (cs : List Case) {x : Case} → Memᴰ x cs → has_case cs (number x.refusal) ≡ true
case_there [] m = absurd (Memᴰ.not-nil m)
case_there (c ∷ cs) (Memᴰ.head e) = rw (e, same_number (number c.refusal)) refl
case_there (c ∷ cs) {x} (Memᴰ.tail m) = or_right (eqb (number c.refusal) (number x.refusal)) _ (case_there cs m)

pub given_there : (cs : List Case) (r : Refusal) → Gives cs r → has_case cs (number r) ≡ true
given_there [] r g = absurd g
given_there (c ∷ cs) r (inl (e, same)) = rw (sym same, same_number (number c.refusal)) refl
given_there (c ∷ cs) r (inr (e, later)) = or_right (eqb (number c.refusal) (number r)) _ (given_there cs r later)

-- ---- which numbers apply

-- none that has no case
pub no_case_never : (cs : List Case) (n : ℕ) → has_case cs n ≡ false → applies cs n ≡ false
unfolding applies
no_case_never [] n h = refl
no_case_never (c ∷ cs) n h =
    let parts = or_no (eqb (number c.refusal) n) (has_case cs n) h in rw (parts.0, no_case_never cs n parts.1) refl

-- a case that does not apply counts for nothing
pub passed_over : (c : Case) (cs : List Case) → c.applies ≡ false → (n : ℕ) → applies (c ∷ cs) n ≡ applies cs n
unfolding applies
passed_over c cs e n = never (eqb (number c.refusal) n) c.applies e
  where
    never : (t b : Bool) → b ≡ false → ((t && b) || applies cs n) ≡ applies cs n
    never true b e = rw e refl
    never false b e = refl

pub none_never : (cs : List Case) → NoneApplies cs → (n : ℕ) → applies cs n ≡ false
unfolding applies
none_never [] none n = refl
none_never (c ∷ cs) none n = passed_over c cs none.0 n ∙ none_never cs none.1 n

-- where the number of the first case does not apply, the case does not
pub not_here : (c : Case) (cs : List Case) → applies (c ∷ cs) (number c.refusal) ≡ false → c.applies ≡ false
unfolding applies
not_here c cs h =
    let n = number c.refusal in
    let neither : (c.applies || applies cs n) ≡ false = rw (same_number n) at h in
    (or_no c.applies (applies cs n) neither).0

-- and where a number applies by no later case, the first does
pub only_here : (c : Case) (cs : List Case) (n : ℕ) → applies cs n ≡ false → applies (c ∷ cs) n ≡ true → c.applies ≡ true
only_here c cs n none some = elim (true_or_false c.applies) [
  | inl e ↦ e
  | inr e ↦ absurd (not_both some (passed_over c cs e n ∙ none))
]
