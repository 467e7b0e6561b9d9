-- What each desk holds after a row is added or rows are taken out, and that the lists keep their lengths. Assumes nothing.
use Prim.Native.Nat.{ℕ, zero, suc, ◌+◌, ◌*◌, ◌^◌, ◌≤◌, ◌<◌}
use mathlib.Core.Path.{◌≡◌, refl, sym, ap, ◌∙◌}
use mathlib.Core.Logic.{◌≢◌}
use mathlib.Core.Bool.{Bool, true, false, not, ◌&&◌}
use mathlib.Core.List.{List, [], ◌∷◌, ◌++◌}
use native.Mathlib.Omega.{arith}
use lib.Dec.{eqb, leb, ltb}
use lib.ListN.{length, set, take, drop, length-append, length-set, length-take, length-drop, drop_of_length-le}
use borrow.Author.Tests.{eq-eqb, ne_eqb, eqb-true}
use Rattle.sets.specs.Limits.{most_places}
use Rattle.sets.specs.Rows.{row_words, width, rows_of}
use Rattle.sets.proofs.LentRows.{put_length, rows_put, words-length}
use Rattle.theory.specs.Pairings.{at}
use Rattle.theory.proofs.Places.{at_same, at_other}
use Rattle.sheet.specs.declared.Sheet.{Sheet}
use Rattle.sheet.specs.Upto.{count_to, those}
use Rattle.sheet.specs.Sheets.{owns, own, held, Whole}
use Rattle.sheet.specs.Changes.{adding, padded, stays, without}
use Rattle.sheet.proofs.UptoLaws.{count-le, count_yes, count_no, count_ext, length-those, those_yes, those_no, those_same, those_ext}
use Rattle.sheet.proofs.PlaceRows.{place_rows, rows_closed}
use Rattle.sheet.proofs.ClosingUp.{at-padded, length-padded, those-those, those_cut}

pub length-own : (s : Sheet) (k : ℕ) → length (own s k) ≡ held s k
length-own s k = length-those (owns s.owners k) (rows_of s.sets) s.used

-- two desks that hold the same rows hold as many
pub same_held : (s t : Sheet) (j k : ℕ) → own t j ≡ own s k → held t j ≡ held s k
same_held s t j k e = sym (length-own t j) ∙ ap length e ∙ length-own s k

-- ---- a row is added

module _ {s : Sheet} (k row : ℕ) (w : Whole s) (h : s.used < most_places) where
  new_owner : at (set s.owners s.used k) s.used ≡ k
  new_owner = at_same s.owners s.used k (omega arith)

  -- the places before it belong to whom they did
  old_owners : (j i : ℕ) → i < s.used → owns (set s.owners s.used k) j i ≡ owns s.owners j i
  old_owners j i l = ap (λ (x : ℕ). eqb x j) (at_other s.owners s.used k i (omega arith))

  held-before : (j : ℕ) → count_to (owns (set s.owners s.used k) j) s.used ≡ held s j
  held-before j = count_ext (owns (set s.owners s.used k) j) (owns s.owners j) s.used (old_owners j)

  not_theirs : (j : ℕ) → j ≢ k → owns (set s.owners s.used k) j s.used ≡ false
  not_theirs j ne = ne_eqb _ _ (λ q. ne (sym q ∙ new_owner))

  pub held-adding_same : held (adding s k row) k ≡ suc (held s k)
  held-adding_same =
      count_yes (owns (set s.owners s.used k) k) s.used (eq-eqb _ _ new_owner) ∙ ap suc (held-before k)

  pub held-adding_other : (j : ℕ) → j ≢ k → held (adding s k row) j ≡ held s j
  held-adding_other j ne = count_no (owns (set s.owners s.used k) j) s.used (not_theirs j ne) ∙ held-before j

  -- the row is one that words can hold
  module _ (small : row < 2 ^ width) where
    pub rows_adding : rows_of (adding s k row).sets ≡ set (rows_of s.sets) s.used row
    rows_adding = rows_put s.sets s.used row (omega (arith, place_rows s.sets w.sets_long)) small

    after_it : (j : ℕ) → own (adding s k row) j ≡ those (owns (set s.owners s.used k) j) (set (rows_of s.sets) s.used row) (suc s.used)
    after_it j = ap (λ (l : List ℕ). those (owns (set s.owners s.used k) j) l (suc s.used)) rows_adding

    before_it : (j : ℕ) → those (owns (set s.owners s.used k) j) (set (rows_of s.sets) s.used row) s.used ≡ own s j
    before_it j =
        those_same (owns (set s.owners s.used k) j) (owns s.owners j) (set (rows_of s.sets) s.used row) (rows_of s.sets) s.used
        (old_owners j)
        (λ i l. at_other (rows_of s.sets) s.used row i (omega arith))

    pub own-adding_same : own (adding s k row) k ≡ own s k ++ (row ∷ [])
    own-adding_same =
        after_it k
        ∙ those_yes (owns (set s.owners s.used k) k) s.used (set (rows_of s.sets) s.used row) (eq-eqb _ _ new_owner)
        ∙ rw (before_it k, at_same (rows_of s.sets) s.used row (omega (arith, place_rows s.sets w.sets_long)))

    pub own-adding_other : (j : ℕ) → j ≢ k → own (adding s k row) j ≡ own s j
    own-adding_other j ne =
        after_it j
        ∙ those_no (owns (set s.owners s.used k) j) s.used (set (rows_of s.sets) s.used row) (not_theirs j ne)
        ∙ before_it j

pub whole_adding : {s : Sheet} (k row : ℕ) → Whole s → Whole (adding s k row)
whole_adding {s} k row w =
    record {
      marks_long = w.marks_long;
      sets_long = put_length s.sets s.used row ∙ w.sets_long;
      owners_long = length-set s.owners s.used k ∙ w.owners_long;
    }

-- ---- rows are taken out

-- 'a filter of a filter': the rows of a desk once the places that pass f are closed up
pub own_closed : (f : ℕ → Bool) (owners sets : List ℕ) (n j : ℕ)
    → those (owns (padded (those f owners n)) j) (padded (those f sets n)) (count_to f n) ≡ those (λ i. f i && owns owners j i) sets n
own_closed f owners sets n j =
    those_same (owns (padded (those f owners n)) j) (owns (those f owners n) j) (padded (those f sets n)) (those f sets n) (count_to f n)
    (λ i h. ap (λ (x : ℕ). eqb x j) (at-padded (those f owners n) i))
    (λ i h. at-padded (those f sets n) i)
    ∙ those-those f (λ (x : ℕ). eqb x j) owners sets n

-- what is another's is not taken out
not_this : (x y z : Bool) → (x ≡ true → z ≡ true → ⊥) → (not (x && y) && z) ≡ z
not_this true y true h = absurd (h refl refl)
not_this true true false h = refl
not_this true false false h = refl
not_this false y z h = refl

module _ (s : Sheet) (k from upto : ℕ) where
  -- whose rows are left, once the words are read
  own-without : (j : ℕ) → own (without s k from upto) j
      ≡ those (λ i. stays s.owners k from upto i && owns s.owners j i) (rows_of s.sets) s.used
  own-without j =
      ap (λ (l : List ℕ). those (owns (without s k from upto).owners j) l (without s k from upto).used)
      (rows_closed (stays s.owners k from upto) s.sets s.used)
      ∙ own_closed (stays s.owners k from upto) s.owners (rows_of s.sets) s.used j

  pub own-without_same : from ≤ upto → own (without s k from upto) k ≡ take from (own s k) ++ drop upto (own s k)
  own-without_same h = own-without k ∙ those_cut (owns s.owners k) (rows_of s.sets) from upto h s.used

  pub own-without_other : (j : ℕ) → j ≢ k → own (without s k from upto) j ≡ own s j
  own-without_other j ne =
      own-without j
      ∙ those_ext (λ i. stays s.owners k from upto i && owns s.owners j i) (owns s.owners j) (rows_of s.sets) s.used (λ i h. theirs i)
    where
      theirs : (i : ℕ) → (stays s.owners k from upto i && owns s.owners j i) ≡ owns s.owners j i
      theirs i =
          not_this (owns s.owners k i) (leb from (count_to (owns s.owners k) i) && ltb (count_to (owns s.owners k) i) upto)
          (owns s.owners j i)
          (λ p q. ne (sym (eqb-true (at s.owners i) j q) ∙ eqb-true (at s.owners i) k p))

  pub held-without_same : from ≤ upto → held (without s k from upto) k ≡ length (take from (own s k)) + length (drop upto (own s k))
  held-without_same h =
      sym (length-own (without s k from upto) k) ∙ ap length (own-without_same h) ∙ length-append (take from (own s k)) (drop upto (own s k))

  pub held-without_other : (j : ℕ) → j ≢ k → held (without s k from upto) j ≡ held s j
  held-without_other j ne = same_held s (without s k from upto) j j (own-without_other j ne)

  pub held-without_less : from ≤ upto → held (without s k from upto) k ≤ held s k
  held-without_less h =
      omega (arith, held-without_same h, length-take from (own s k), length-drop upto (own s k), length-own s k)

  pub used_without : (without s k from upto).used ≤ s.used
  used_without = count-le (stays s.owners k from upto) s.used

pub own-without-all : (s : Sheet) (k : ℕ) → s.used ≤ most_places → own (without s k zero most_places) k ≡ []
own-without-all s k h =
    own-without_same s k zero most_places (omega arith)
    ∙ drop_of_length-le (own s k) {i = most_places} (omega (arith, length-own s k, count-le (owns s.owners k) s.used))

pub whole_without : {s : Sheet} (k from upto : ℕ) → Whole s → s.used ≤ most_places → Whole (without s k from upto)
whole_without {s} k from upto w h =
    record {
      marks_long = w.marks_long;
      sets_long = words-length (padded (kept (rows_of s.sets))) ∙ ap (λ (n : ℕ). n * row_words) (kept_long (rows_of s.sets));
      owners_long = kept_long s.owners;
    }
  where
    kept : List ℕ → List ℕ
    kept l = those (stays s.owners k from upto) l s.used

    kept_long : (l : List ℕ) → length (padded (kept l)) ≡ most_places
    kept_long l =
        length-padded (kept l) (omega (arith, length-those (stays s.owners k from upto) l s.used, used_without s k from upto))
