-- Which refusal is given (the request, 'Refusal numbers'): 'Where several apply, the lowest number is given.' Where a wish has a number 'tried' out
-- of its turn, the list of the cases is the order, and the first that applies is given.
use Rattle.std.specs.Prelude.{ℕ, zero, ◌<◌, ◌≡◌, Bool, true, false, cond, ◌&&◌, ◌||◌, List, [], ◌∷◌, eqb, Option, Some, None}
use Rattle.refusals.specs.declared.Refusal.{Refusal}
use Rattle.refusals.specs.Refusals.{number}

-- a refusal, and whether it applies
pub record Case : Type 0 where
  pub applies : Bool
  pub refusal : Refusal

infix 4 ◌gives◌
abbrev pub ◌gives◌ : Bool → Refusal → Case
b gives r = record { applies = b; refusal = r }

-- a refusal that returns a row applies where such a row was found
abbrev pub found : Option ℕ → Bool
found None = false
found (Some i) = true

abbrev pub found_at : Option ℕ → ℕ
found_at None = zero
found_at (Some i) = i

infix 4 ◌names◌
abbrev pub ◌names◌ : Option ℕ → (ℕ → Refusal) → Case
f names r = found f gives r (found_at f)

-- the first case that applies is refused; where none does, the answer stands
unfoldable pub decided : {A : Type 0} → (Refusal → A) → List Case → A → A
decided refused [] a = a
decided refused (c ∷ cs) a = cond c.applies (refused c.refusal) (decided refused cs a)

-- a case with number n is there, and applies
unfoldable pub applies : List Case → ℕ → Bool
applies [] n = false
applies (c ∷ cs) n = (eqb (number c.refusal) n && c.applies) || applies cs n

-- number n is to be given, where the lowest is: its case applies, and none of a lower number does
abbrev pub Given : List Case → ℕ → Type 0
Given cs n = (applies cs n ≡ true) × ((m : ℕ) → m < n → applies cs m ≡ false)

-- the cases that are tried before number n: those that stand before its own
unfoldable pub tried_before : List Case → ℕ → List Case
tried_before [] n = []
tried_before (c ∷ cs) n = cond (eqb (number c.refusal) n) [] (c ∷ tried_before cs n)

-- number n is to be given, where the first is: its case applies, and none that is tried before it does
abbrev pub First : List Case → ℕ → Type 0
First cs n = (applies cs n ≡ true) × ((m : ℕ) → applies (tried_before cs n) m ≡ false)

-- the cases stand in the order of their numbers, which are all above n
abbrev pub Rising : ℕ → List Case → Type 0
Rising n [] = Unit {0}
Rising n (c ∷ cs) = (n < number c.refusal) × Rising (number c.refusal) cs
