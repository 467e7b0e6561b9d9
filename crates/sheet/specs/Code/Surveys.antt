-- What is learnt of a sheet that may be damaged: of its marks, and of all of it.
use Rattle.std.specs.Prelude.{ℕ, ◌+◌, ◌-◌, ◌*◌, ◌/◌, ◌%◌, ◌<◌, ◌≡◌, Bool, true, false, ◌&&◌, ◌||◌, eqb, leb, ltb, List, length, Option, Some, None}
use Rattle.std.specs.Int.Count.{count_leading_zeros}
use Rattle.sets.specs.Limits.{most_desks, word_bits}
use Rattle.theory.specs.Pairings.{at}
use Rattle.sheet.specs.declared.Sheet.{Sheet}
use Rattle.sheet.specs.Sheets.{held, mark_words}

-- one more than the highest row of a word of marks, and 0 where it has none
abbrev pub top : ℕ → ℕ
top a = word_bits - count_leading_zeros word_bits a

-- a, word w of the marks, has no row, or its desk exists and its highest row is below T
unfoldable pub word_right : Sheet → ℕ → ℕ → Bool
word_right s w a = eqb (top a) 0 || (ltb (w / mark_words) s.desks && leb (w % mark_words * word_bits + top a) s.rows)

-- there is a count for each desk that there may be: how many rows it holds
pub record Counted (s : Sheet) (counts : List ℕ) : Type 0 where
  pub long : length counts ≡ most_desks
  pub each : (k : ℕ) → k < most_desks → at counts k ≡ held s k

-- None exactly where the sheet is not right in the way that is asked about, and else the counts
abbrev pub Surveyed : (Sheet → Bool) → Sheet → Option (List ℕ) → Type 0
Surveyed right s None = right s ≡ false
Surveyed right s (Some counts) = (right s ≡ true) × Counted s counts
