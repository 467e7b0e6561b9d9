-- What a pass that takes rows out leaves.
use Rattle.std.specs.Prelude.{ℕ, zero, ◌-◌, ◌*◌, ◌≡◌, ◌++◌, take, replicate}
use Rattle.sets.specs.Limits.{most_places}
use Rattle.sets.specs.Rows.{row_words, rows_of, in_words}
use Rattle.sheet.specs.declared.Sheet.{Sheet}
use Rattle.sheet.specs.Upto.{count_to, those}
use Rattle.sheet.specs.Changes.{padded, placing, stays}

-- of the used places, those that stay have closed up, `left` of them
pub record ClosedUp (s : Sheet) (k from upto left : ℕ) (s' : Sheet) : Type 0 where
  pub count : left ≡ count_to (stays s.owners k from upto) s.used
  pub rows : take (left * row_words) s'.sets ≡ in_words (those (stays s.owners k from upto) (rows_of s.sets) s.used)
  pub desks : take left s'.owners ≡ those (stays s.owners k from upto) s.owners s.used
  pub rest : s' ≡ placing s s.used s'.sets s'.owners

-- the first `left` places are the used ones, and those behind them are empty
abbrev pub emptied : Sheet → ℕ → Sheet
emptied s left = placing s left (take (left * row_words) s.sets ++ replicate ((most_places - left) * row_words) zero) (padded (take left s.owners))
