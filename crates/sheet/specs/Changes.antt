-- What each change makes of the class sheet. Nothing else on it moves.
use Rattle.std.specs.Prelude.{ℕ, zero, suc, ◌+◌, ◌-◌, ◌*◌, ◌%◌, Bool, not, ◌&&◌, List, ◌++◌, leb, ltb, length, set, replicate}
use Rattle.std.specs.Int.Bits.{bit_or}
use Rattle.sets.specs.Limits.{most_places, word_bits}
use Rattle.sets.specs.Sets.{single}
use Rattle.sets.specs.Rows.{row_words, rows_of, in_words, put_row}
use Rattle.theory.specs.Pairings.{at}
use Rattle.sheet.specs.declared.Sheet.{Sheet}
use Rattle.sheet.specs.Upto.{count_to, those}
use Rattle.sheet.specs.Sheets.{owns, mark_words, all_marks, word}

-- 'a fresh sheet for this d and T: no marks, no rows'
unfoldable pub fresh_sheet : ℕ → ℕ → ℕ → Sheet
fresh_sheet d rows desks =
    record {
      d = d;
      rows = rows;
      desks = desks;
      used = zero;
      marks = replicate all_marks zero;
      sets = replicate (most_places * row_words) zero;
      owners = replicate most_places zero;
    }

-- the sheet with other marks
abbrev pub marking : Sheet → List ℕ → Sheet
marking s ms = record { d = s.d; rows = s.rows; desks = s.desks; used = s.used; marks = ms; sets = s.sets; owners = s.owners }

-- the sheet with other places
abbrev pub placing : Sheet → ℕ → List ℕ → List ℕ → Sheet
placing s used sets owners = record { d = s.d; rows = s.rows; desks = s.desks; used = used; marks = s.marks; sets = sets; owners = owners }

-- 'hidden at this desk': table row n at desk k
unfoldable pub hide : List ℕ → ℕ → ℕ → List ℕ
hide marks k n = set marks (word k n) (bit_or (at marks (word k n)) (single (n % word_bits)))

abbrev pub hiding : Sheet → ℕ → ℕ → Sheet
hiding s k n = marking s (hide s.marks k n)

-- 'the row becomes the desk's last'
abbrev pub adding : Sheet → ℕ → ℕ → Sheet
adding s k row = placing s (suc s.used) (put_row s.sets s.used row) (set s.owners s.used k)

-- ---- rows taken out, 'the rest close up in order'

-- rows or owners as the places hold them
unfoldable pub padded : List ℕ → List ℕ
padded l = l ++ replicate (most_places - length l) zero

-- place i holds none of the desk's rows number `from` to `upto` - 1; before it the desk has as many rows as it owns places
abbrev pub stays : List ℕ → ℕ → ℕ → ℕ → ℕ → Bool
stays owners k from upto i = not (owns owners k i && (leb from (count_to (owns owners k) i) && ltb (count_to (owns owners k) i) upto))

-- the sheet without desk k's rows number `from` to `upto` - 1
abbrev pub without : Sheet → ℕ → ℕ → ℕ → Sheet
without s k from upto =
    placing s (count_to (stays s.owners k from upto) s.used)
    (in_words (padded (those (stays s.owners k from upto) (rows_of s.sets) s.used)))
    (padded (those (stays s.owners k from upto) s.owners s.used))

-- ---- marks taken off

-- the words from `first` on, n of them, with no values
unfoldable pub wiped : List ℕ → ℕ → ℕ → List ℕ
wiped marks first zero = marks
wiped marks first (suc n) = set (wiped marks first n) (first + n) zero

abbrev pub showing : Sheet → ℕ → Sheet
showing s k = marking s (wiped s.marks (k * mark_words) mark_words)

-- 'this desk's marks and rows are gone, other desks' order stays'
abbrev pub resetting : Sheet → ℕ → Sheet
resetting s k = showing (without s k zero most_places) k
