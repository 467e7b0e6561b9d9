-- The refusals by the request's numbers ('Refusal numbers', those of 'Lesson files', and those of the wishes that followed).
use Rattle.std.specs.Prelude.{ℕ, zero, Result, Ok, Err}
use Rattle.refusals.specs.declared.Refusal.{Refusal}
use Rattle.refusals.specs.declared.Refusal.TheVariants.{TooLarge, BadRow, Unsound, OtherTable, NoDesk, NoRow, HiddenAlready, BadSet, Full}
use Rattle.refusals.specs.declared.Refusal.TheVariants.{NoRoom, ShortList, LongView, BadDesks, ShortFile, WrongMark, WrongVersion, BadValues}
use Rattle.refusals.specs.declared.Refusal.TheVariants.{ManyRows, CutShort, RowOver, FewPlaces, LongFile, ShortBuffer}

-- (wish 3: '27 is withdrawn'; it is the number of none)
abbrev pub number : Refusal → ℕ
number TooLarge = 1
number (BadRow i) = 2
number Unsound = 3
number OtherTable = 4
number NoDesk = 5
number NoRow = 6
number HiddenAlready = 7
number BadSet = 8
number Full = 9
number NoRoom = 10
number ShortList = 11
number LongView = 12
number BadDesks = 13
number ShortFile = 20
number WrongMark = 21
number WrongVersion = 22
number BadValues = 23
number ManyRows = 24
number CutShort = 25
number (RowOver i) = 26
number FewPlaces = 28
number LongFile = 29
number ShortBuffer = 30

-- 'A refusal returns its number and a row number (0 except where stated)'
abbrev pub row : Refusal → ℕ
row TooLarge = zero
row (BadRow i) = i
row Unsound = zero
row OtherTable = zero
row NoDesk = zero
row NoRow = zero
row HiddenAlready = zero
row BadSet = zero
row Full = zero
row NoRoom = zero
row ShortList = zero
row LongView = zero
row BadDesks = zero
row ShortFile = zero
row WrongMark = zero
row WrongVersion = zero
row BadValues = zero
row ManyRows = zero
row CutShort = zero
row (RowOver i) = i
row FewPlaces = zero
row LongFile = zero
row ShortBuffer = zero

-- ---- the same of what is answered: 0 where the call is accepted

abbrev pub number_of : {A : Type 0} → Result A Refusal → ℕ
number_of (Ok a) = zero
number_of (Err r) = number r

abbrev pub row_of : {A : Type 0} → Result A Refusal → ℕ
row_of (Ok a) = zero
row_of (Err r) = row r
