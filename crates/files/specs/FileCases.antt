-- The refusals of a lesson file (the request, 'Lesson files', with wishes 2 and 3), in the order in which they are tried: the lists below are it.
use Rattle.std.specs.Prelude.{ℕ, zero, ◌+◌, ◌*◌, not, ◌||◌, List, [], ◌∷◌, ◌++◌, eqb, ltb, length, Option}
use Rattle.sets.specs.Limits.{most_values, most_rows}
use Rattle.sets.specs.Sets.{below}
use Rattle.refusals.specs.declared.Refusal.TheVariants.{ShortFile, WrongMark, WrongVersion, BadValues, ManyRows, CutShort, LongFile}
use Rattle.refusals.specs.declared.Refusal.TheVariants.{RowOver, FewPlaces}
use Rattle.refusals.specs.Cases.{Case, ◌gives◌, ◌names◌}
use Rattle.files.specs.Rows.{lowest_to}
use Rattle.files.specs.Files.{mark_in, version_in, values_in, count_in, row_in}

module _ (file : List ℕ) where
  -- '20 fewer than 8 bytes; 21 wrong mark; 22 version not 1; 23 d is 0 or above 64; 24 T above 256; 25 fewer than 8+8T bytes', and
  -- '29, the file is longer than 8+8T bytes, tried after 25 and before 26'
  unfoldable pub front_cases : List Case
  front_cases =
      (ltb (length file) 8 gives ShortFile)
      ∷ (not (eqb (mark_in file) 0x505654) gives WrongMark)
      ∷ (not (eqb (version_in file) 1) gives WrongVersion)
      ∷ ((eqb (values_in file) zero || ltb most_values (values_in file)) gives BadValues)
      ∷ (ltb most_rows (count_in file) gives ManyRows)
      ∷ (ltb (length file) (8 + 8 * count_in file) gives CutShort)
      ∷ (ltb (8 + 8 * count_in file) (length file) gives LongFile)
      ∷ []

  -- the lowest row that 'has a value d or above'
  abbrev pub row_over : Option ℕ
  row_over = lowest_to (λ i. not (below (values_in file) (row_in file i))) (count_in file)

  -- '26 a row has a value d or above (the lowest such row is returned)'; wish 3: '27 is withdrawn'
  unfoldable pub row_cases : List Case
  row_cases = (row_over names RowOver) ∷ []

  -- what the file alone decides
  abbrev pub file_cases : List Case
  file_cases = front_cases ++ row_cases

  -- '28 the lent row list has fewer than T places'
  abbrev pub place_cases : ℕ → List Case
  place_cases places = (ltb places (count_in file) gives FewPlaces) ∷ []

  abbrev pub read_cases : ℕ → List Case
  read_cases places = file_cases ++ place_cases places
