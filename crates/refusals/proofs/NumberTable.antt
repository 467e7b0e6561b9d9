-- The refusals, one by one, have the numbers that the request prints, and return a row only where it says so. Assumes nothing.
use Prim.Native.Nat.{ℕ}
use mathlib.Core.Path.{◌≡◌, refl, sym, ap, ◌∙◌}
use mathlib.Core.Logic.{◌≢◌, ◌⊎◌, inl, inr}
use mathlib.Core.Bool.{Bool, false, ◌||◌, false≢true}
use mathlib.Core.List.{List, [], ◌∷◌, map}
use native.Mathlib.Omega.{arith}
use lib.Dec.{eqb}
use Rattle.refusals.specs.declared.Refusal.{Refusal}
use Rattle.refusals.specs.declared.Refusal.TheVariants.{TooLarge, BadRow, Unsound, OtherTable, NoDesk, NoRow, HiddenAlready, BadSet, Full}
use Rattle.refusals.specs.declared.Refusal.TheVariants.{NoRoom, ShortList, LongView, BadDesks, ShortFile, WrongMark, WrongVersion, BadValues}
use Rattle.refusals.specs.declared.Refusal.TheVariants.{ManyRows, CutShort, RowOver, FewPlaces, LongFile, ShortBuffer}
use Rattle.refusals.specs.Refusals.{number, row}

-- every refusal, with row i for refusal 2 and row j for refusal 26
pub every : ℕ → ℕ → List Refusal
every i j =
    TooLarge ∷ BadRow i ∷ Unsound ∷ OtherTable ∷ NoDesk ∷ NoRow ∷ HiddenAlready ∷ BadSet ∷ Full ∷ NoRoom ∷ ShortList ∷ LongView ∷ BadDesks
    ∷ ShortFile ∷ WrongMark ∷ WrongVersion ∷ BadValues ∷ ManyRows ∷ CutShort ∷ RowOver j ∷ FewPlaces ∷ LongFile ∷ ShortBuffer
    ∷ []

pub numbers_printed : (i j : ℕ)
    → map number (every i j) ≡ 1 ∷ 2 ∷ 3 ∷ 4 ∷ 5 ∷ 6 ∷ 7 ∷ 8 ∷ 9 ∷ 10 ∷ 11 ∷ 12 ∷ 13 ∷ 20 ∷ 21 ∷ 22 ∷ 23 ∷ 24 ∷ 25 ∷ 26 ∷ 28 ∷ 29 ∷ 30 ∷ []
unfolding every
numbers_printed i j = refl

-- '0 except where stated': for 2, and 'a row number (0 except for 26)'
pub rows_printed : (i j : ℕ)
    → map row (every i j) ≡ 0 ∷ i ∷ 0 ∷ 0 ∷ 0 ∷ 0 ∷ 0 ∷ 0 ∷ 0 ∷ 0 ∷ 0 ∷ 0 ∷ 0 ∷ 0 ∷ 0 ∷ 0 ∷ 0 ∷ 0 ∷ 0 ∷ j ∷ 0 ∷ 0 ∷ 0 ∷ []
unfolding every
rows_printed i j = refl

-- ---- two numbers with laws of their own

reserved : ℕ → Bool
reserved n = eqb n 10 || eqb n 27

each : (r : Refusal) → (r ≡ NoRoom) ⊎ (reserved (number r) ≡ false)
unfolding reserved
each TooLarge = inr refl
each (BadRow i) = inr refl
each Unsound = inr refl
each OtherTable = inr refl
each NoDesk = inr refl
each NoRow = inr refl
each HiddenAlready = inr refl
each BadSet = inr refl
each Full = inr refl
each NoRoom = inl refl
each ShortList = inr refl
each LongView = inr refl
each BadDesks = inr refl
each ShortFile = inr refl
each WrongMark = inr refl
each WrongVersion = inr refl
each BadValues = inr refl
each ManyRows = inr refl
each CutShort = inr refl
each (RowOver i) = inr refl
each FewPlaces = inr refl
each LongFile = inr refl
each ShortBuffer = inr refl

-- no other refusal has the number 10
pub ten_no_room : (r : Refusal) → number r ≡ 10 → r ≡ NoRoom
unfolding reserved
ten_no_room r e = elim (each r) [
  | inl same ↦ same
  | inr other ↦ absurd (false≢true (sym other ∙ ap reserved e))
]

-- wish 3: '27 is withdrawn', and is never given to anything else
pub never_27 : (r : Refusal) → number r ≢ 27
unfolding reserved
never_27 r e = elim (each r) [
  | inl same ↦ omega (arith, ap number same, e)
  | inr other ↦ false≢true (sym other ∙ ap reserved e)
]
