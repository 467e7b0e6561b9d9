-- What the contracts say while the minimal rows of a view are marked: which values are rows of their own, how the other rows are chained,
-- and which rows are judged. The marks they come to are `firsts` (the request, 'Which rows DISTINCT keeps').
use Rattle.std.specs.Prelude.{ℕ, zero, suc, ◌+◌, ◌-◌, ◌/◌, ◌%◌, ◌≤◌, ◌<◌, ◌≡◌, ◌≢◌, ◌⊎◌, Bool, true, false, List, length, set}
use Rattle.std.specs.Int.Bits.{bit_or}
use Rattle.std.specs.Int.Count.{ones}
use Rattle.sets.specs.Limits.{word_bits}
use Rattle.sets.specs.Rows.{width}
use Rattle.sets.specs.Sets.{has, single, subset}
use Rattle.theory.specs.Pairings.{at}
use Rattle.theory.specs.Kept.{marked, pick, firsts}

-- ---- what the caller gives

abbrev pub NoMarks : List Bool → Type 0
NoMarks ms = (j : ℕ) → marked ms j ≡ false

abbrev pub NoneEmpty : List ℕ → Type 0
NoneEmpty rows = (i : ℕ) → i < length rows → at rows i ≢ zero

-- ---- rows of one value

-- r answers whether the row x has one value
pub record IsSingle (r : Bool) (x : ℕ) : Type 0 where
  pub one : r ≡ true → (v : ℕ) × (x ≡ single v)
  pub more : r ≡ false → (v : ℕ) → x ≢ single v

-- one of the first n rows has the value v alone
abbrev pub Alone : List ℕ → ℕ → ℕ → Type 0
Alone rows n v = (j : ℕ) × (j < n) × (at rows j ≡ single v)

-- s is the set of the values that one of the first n rows has alone
pub record Singles (rows : List ℕ) (n s : ℕ) : Type 0 where
  pub from : (v : ℕ) → has s v ≡ true → Alone rows n v
  pub all : (v : ℕ) → Alone rows n v → has s v ≡ true

-- the row r has no value that a row has alone
abbrev pub Clear : List ℕ → ℕ → Type 0
Clear rows r = (v : ℕ) → has r v ≡ true → Alone rows (length rows) v → ⊥

-- row j is the same as the row before it
abbrev pub Repeats : List ℕ → ℕ → Type 0
Repeats rows j = (i : ℕ) × (j ≡ suc i) × (at rows i ≡ at rows j)

-- row j has to be judged: it is clear, and not the same as the row before it
pub record Candidate (rows : List ℕ) (j : ℕ) : Type 0 where
  pub clear : Clear rows (at rows j)
  pub new : Repeats rows j → ⊥

-- ---- which rows are judged

-- row j has fewer than k values, or it has k and stands before place i
abbrev pub Before : List ℕ → ℕ → ℕ → ℕ → Type 0
Before rows k i j = (ones (at rows j) < k) ⊎ ((ones (at rows j) ≡ k) × (j < i))

-- The rows that are no candidates are judged, and so are the candidates before place i of those with k values.
-- They have their marks, and the other rows none.
pub record Marks (rows : List ℕ) (keep : List Bool) (k i : ℕ) : Type 0 where
  pub long : length keep ≡ length rows
  pub right : (j : ℕ) → j < length rows → (Candidate rows j → Before rows k i j) → marked keep j ≡ marked (firsts rows) j
  pub only : (j : ℕ) → j < length rows → Candidate rows j → marked keep j ≡ true → Before rows k i j

-- one of the first `found` rows of mins is a subset of x
abbrev pub SomeWithin : List ℕ → ℕ → ℕ → Type 0
SomeWithin mins found x = (m : ℕ) × (m < found) × (subset (at mins m) x ≡ true)

abbrev pub NoneWithin : List ℕ → ℕ → ℕ → Type 0
NoneWithin mins found x = (m : ℕ) → m < found → subset (at mins m) x ≡ false

-- r answers whether none is
pub record Scanned (r : Bool) (mins : List ℕ) (found x : ℕ) : Type 0 where
  pub none : r ≡ true → NoneWithin mins found x
  pub some : r ≡ false → SomeWithin mins found x

-- the words that the tags fill, a bit for each (no limit of the request)
abbrev pub tag_words : ℕ
tag_words = 8

-- the tag t is in a set of tags
abbrev pub has_tag : List ℕ → ℕ → Bool
has_tag tags t = has (at tags (t / word_bits)) (t % word_bits)

-- the set of tags with t put in
abbrev pub with_tag : List ℕ → ℕ → List ℕ
with_tag tags t = set tags (t / word_bits) (bit_or (at tags (t / word_bits)) (single (t % word_bits)))

-- r of the rows found so far are to be tested: all, or those before `base` where the tag t is not among the tags of the others
abbrev pub ToTest : ℕ → ℕ → List ℕ → ℕ → ℕ → Type 0
ToTest base found tags t r = (r ≡ found) ⊎ ((r ≡ base) × (has_tag tags t ≡ false))

-- The first `found` rows of mins are judged rows, no more than are marked, and each judged candidate has one of them for a subset.
pub record Sieve (rows : List ℕ) (keep : List Bool) (mins : List ℕ) (found k i : ℕ) : Type 0 where
  pub marks : Marks rows keep k i
  pub room : found ≤ length (pick keep rows)
  pub from : (m : ℕ) → m < found → (j : ℕ) × (j < length rows) × Before rows k i j × (at mins m ≡ at rows j)
  pub cover : (j : ℕ) → j < length rows → Candidate rows j → Before rows k i j → SomeWithin mins found (at rows j)

-- ---- chains

-- row j is in the chain of the candidates with k values
abbrev pub InChain : List ℕ → ℕ → ℕ → Type 0
InChain rows k j = Candidate rows j × (ones (at rows j) ≡ k)

-- x is the first place of chain k from place i on, or a number past the view
pub record FirstFrom (rows : List ℕ) (k i x : ℕ) : Type 0 where
  pub from : i ≤ x
  pub gap : (j : ℕ) → i ≤ j → j < x → j < length rows → InChain rows k j → ⊥
  pub hit : x < length rows → InChain rows k x

-- no chain has begun
abbrev pub Past : List ℕ → List ℕ → Type 0
Past rows head = (k : ℕ) → k ≤ width → length rows ≤ at head k

-- head and next lead through the rows of each chain from place t on; a row has `width` values at most
pub record Chains (rows next head : List ℕ) (t : ℕ) : Type 0 where
  pub long : length rows ≤ length next
  pub wide : length head ≡ width + 1
  pub heads : (k : ℕ) → k ≤ width → FirstFrom rows k t (at head k)
  pub links : (i : ℕ) → t ≤ i → i < length rows → Candidate rows i → FirstFrom rows (ones (at rows i)) (i + 1) (at next i)

-- s has, for each candidate from place t on, one less than the number of its values
pub record Sizes (rows : List ℕ) (t s : ℕ) : Type 0 where
  pub all : (j : ℕ) → t ≤ j → j < length rows → Candidate rows j → has s (ones (at rows j) - 1) ≡ true
