-- Refusals 1 and 2, of a table that is lent (the request, 'Refusal numbers').
use Rattle.std.specs.Prelude.{ℕ, zero, ◌||◌, List, [], ◌∷◌, eqb, ltb, length, Option}
use Rattle.sets.specs.Limits.{most_values}
use Rattle.sets.specs.Tables.{bad_row}
use Rattle.refusals.specs.declared.Refusal.TheVariants.{TooLarge, BadRow}
use Rattle.refusals.specs.Cases.{Case, ◌gives◌, ◌names◌}

-- 'a table row is empty or has a value d or above; returns the lowest such row'
abbrev pub bad_case : Option ℕ → Case
bad_case f = f names BadRow

-- 'd is 0 or above 64, or the table has over 256 rows'; a view that belongs to no desk may have more rows than a table
unfoldable pub table_cases : ℕ → ℕ → List ℕ → List Case
table_cases most d table = ((eqb d zero || ltb most_values d || ltb most (length table)) gives TooLarge) ∷ bad_case (bad_row d table) ∷ []
