-- The class sheet, read: what a desk holds and hides, what is owed, and which sheets are sound (the request, 'The class sheet').
use Rattle.std.specs.Prelude.{ℕ, ◌+◌, ◌-◌, ◌*◌, ◌/◌, ◌%◌, ◌≡◌, Bool, not, ◌&&◌, ◌||◌, List, eqb, leb, ltb, length}
use Rattle.sets.specs.Limits.{most_values, most_rows, most_desks, most_places, most_held, promised, word_bits}
use Rattle.sets.specs.Sets.{has, within}
use Rattle.sets.specs.Rows.{row_words, rows_of}
use Rattle.theory.specs.Pairings.{at}
use Rattle.sheet.specs.declared.Sheet.{Sheet}
use Rattle.sheet.specs.Upto.{count_to, all_to, sum_to, those}

-- 'one list of at most 512 inserted rows with their owners, in order of insertion': place i belongs to desk k
abbrev pub owns : List ℕ → ℕ → ℕ → Bool
owns owners k i = eqb (at owners i) k

-- the rows of desk k in order of insertion, and how many they are
abbrev pub own : Sheet → ℕ → List ℕ
own s k = those (owns s.owners k) (rows_of s.sets) s.used

abbrev pub held : Sheet → ℕ → ℕ
held s k = count_to (owns s.owners k) s.used

-- the words of one desk's marks, and of all desks'
abbrev pub mark_words : ℕ
mark_words = most_rows / word_bits

abbrev pub all_marks : ℕ
all_marks = most_desks * mark_words

-- the lists have their lengths
pub record Whole (s : Sheet) : Type 0 where
  pub marks_long : length s.marks ≡ all_marks
  pub sets_long : length s.sets ≡ most_places * row_words
  pub owners_long : length s.owners ≡ most_places

-- the word of marks that has table row n of desk k
abbrev pub word : ℕ → ℕ → ℕ
word k n = k * mark_words + n / word_bits

-- 'each desk's 256 hide marks': desk k hides table row n
unfoldable pub hides : List ℕ → ℕ → ℕ → Bool
hides marks k n = has (at marks (word k n)) (n % word_bits)

-- 'Owed is the sum, over all desks, of 8 minus the rows held, where a desk holds fewer than 8.' (A difference below 0 is 0.)
abbrev pub owed : Sheet → ℕ
owed s = sum_to (λ k. promised - held s k) s.desks

-- ---- 'A sheet is sound when:'

-- 'd is 1 to 64, T at most 256, desks 1 to 32; at most 512 places are used;'
unfoldable pub shaped : Sheet → Bool
shaped s = leb 1 s.d && leb s.d most_values && leb s.rows most_rows && leb 1 s.desks && leb s.desks most_desks && leb s.used most_places

-- 'each used place has an existing owner and a non-empty set within d;'
abbrev pub owned : Sheet → ℕ → Bool
owned s i = ltb (at s.owners i) s.desks && within s.d (at (rows_of s.sets) i)

-- 'the used places come first, unused ones have set 0 and owner 0;'
abbrev pub empty : Sheet → ℕ → Bool
empty s i = eqb (at s.owners i) 0 && eqb (at (rows_of s.sets) i) 0

unfoldable pub placed : Sheet → Bool
placed s = all_to (owned s) s.used && all_to (λ i. ltb i s.used || empty s i) most_places

-- 'no desk holds over 64; used plus owed is at most 512;'
unfoldable pub shared : Sheet → Bool
shared s = all_to (λ k. leb (held s k) most_held) s.desks && leb (s.used + owed s) most_places

-- 'marks stand only for existing desks and rows below T.'
unfoldable pub marked_right : Sheet → Bool
marked_right s = all_to (λ k. all_to (λ n. not (hides s.marks k n) || (ltb k s.desks && ltb n s.rows)) most_rows) most_desks

unfoldable pub sound : Sheet → Bool
sound s = shaped s && placed s && shared s && marked_right s
