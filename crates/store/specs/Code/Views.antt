-- What it is to gather a view.
use Rattle.std.specs.Prelude.{ℕ, ◌+◌, ◌<◌, ◌≤◌, ◌≡◌, Bool, List, ◌++◌, length, take}
use Rattle.sets.specs.Limits.{most_in_view}
use Rattle.sheet.specs.Upto.{count_to, those}
use Rattle.store.specs.Desks.{view}

-- the code of a test may be asked about each number below n, and answers what the test f says
pub record Decides (may : ℕ → Type 0) (answers : ℕ → Bool → Type 0) (f : ℕ → Bool) (n : ℕ) : Type 0 where
  pub asked : (i : ℕ) → i < n → may i
  pub told : (i : ℕ) (b : Bool) → i < n → answers i b → b ≡ f i

-- behind the first `start` rows stand those of the first n of `from` that pass the test, which makes `end` rows
pub record Filled (f : ℕ → Bool) (from : List ℕ) (n start : ℕ) (old : List ℕ) (end : ℕ) (rows : List ℕ) : Type 0 where
  pub count : end ≡ start + count_to f n
  pub is : take end rows ≡ take start old ++ those f from n
  pub long : length rows ≡ length old

-- the first n rows are the view
pub record Viewed (table : List ℕ) (hid : ℕ → Bool) (own : List ℕ) (n : ℕ) (rows : List ℕ) : Type 0 where
  pub count : n ≡ length (view table hid own)
  pub is : take n rows ≡ view table hid own
  pub most : n ≤ most_in_view
  pub long : length rows ≡ most_in_view
