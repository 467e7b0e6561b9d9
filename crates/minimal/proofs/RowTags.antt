-- Rows of as many values are subsets of each other only where they are equal, and equal rows have one tag. Assumes nothing.
use Prim.Native.Nat.{ℕ, ◌+◌, ◌/◌, ◌%◌, ◌≤◌, ◌<◌}
use mathlib.Core.Path.{◌≡◌, sym, ap, ◌∙◌, subst}
use mathlib.Core.Logic.{◌≢◌, inl, inr}
use mathlib.Core.Bool.{Bool, true, false}
use mathlib.Core.List.{List}
use native.Mathlib.Decide.{ℕ_discrete, dec_lt}
use native.Mathlib.Omega.{arith}
use lib.Bits.{bit_or}
use lib.Count.{ones}
use lib.ListN.{length, set, length-set}
use Rattle.sets.specs.Limits.{word_bits}
use Rattle.sets.specs.Sets.{has, single, subset, proper}
use Rattle.sets.specs.Rows.{tag_of}
use Rattle.sets.proofs.Bools.{true_or_false, not_both}
use Rattle.sets.proofs.Values.{with_old, with_new}
use Rattle.sets.proofs.Subsets.{subset_same}
use Rattle.sets.proofs.RowValues.{tag_less}
use Rattle.theory.specs.Pairings.{at}
use Rattle.theory.proofs.Places.{stored, at_same, at_other}
use Rattle.minimal.specs.Code.Marking.{Scanned, tag_words, has_tag, with_tag, ToTest}
use Rattle.minimal.proofs.Counts.{proper_fewer}

-- the rows found from `base` on have k values, and their tags are among the tags
pub record Tagged (mins : List ℕ) (base found k : ℕ) (tags : List ℕ) : Type 0 where
  pub wide : length tags ≡ tag_words
  pub least : base ≤ found
  pub same : (m : ℕ) → base ≤ m → m < found → (ones (at mins m) ≡ k) × (has_tag tags (tag_of (at mins m)) ≡ true)

-- ---- one tag more

module _ (tags : List ℕ) (t : ℕ) (h : t / word_bits < length tags) where
  tag_new : has_tag (with_tag tags t) t ≡ true
  tag_new =
      ap (λ (x : ℕ). has x (t % word_bits)) (at_same tags (t / word_bits) (bit_or (at tags (t / word_bits)) (single (t % word_bits))) h)
      ∙ with_new (at tags (t / word_bits)) (t % word_bits)

  tag_old : (u : ℕ) → has_tag tags u ≡ true → has_tag (with_tag tags t) u ≡ true
  tag_old u e = elim (stored tags (t / word_bits) (bit_or (at tags (t / word_bits)) (single (t % word_bits))) (u / word_bits) h) [
    | inl s ↦
        ap (λ (x : ℕ). has x (u % word_bits)) s.1
        ∙ with_old (at tags (t / word_bits)) (t % word_bits) (u % word_bits) (ap (λ (x : ℕ). has (at tags x) (u % word_bits)) (sym s.0) ∙ e)
    | inr s ↦ ap (λ (x : ℕ). has x (u % word_bits)) s.1 ∙ e
  ]

-- ---- the rows found

pub tagged_start : (mins : List ℕ) (found k : ℕ) (tags : List ℕ) → length tags ≡ tag_words → Tagged mins found found k tags
tagged_start mins found k tags wide = record { wide = wide; least = omega arith; same = λ m a b. absurd (omega arith) }

module _ {mins : List ℕ} {base found k : ℕ} {tags : List ℕ} (T : Tagged mins base found k tags) (x : ℕ) (c : ones x ≡ k) where
  -- x is found
  with_row : found < length mins → Tagged (set mins found x) base (found + 1) k (with_tag tags (tag_of x))
  with_row h = record {
    wide = length-set tags (tag_of x / word_bits) (bit_or (at tags (tag_of x / word_bits)) (single (tag_of x % word_bits))) ∙ T.wide;
    least = omega (arith, T.least);
    same = λ m a b. elim (ℕ_discrete m found) [ yes e ↦ new m e | no ne ↦ old m a ne b ];
  }
    where
      inside : tag_of x / word_bits < length tags
      inside = omega (arith, tag_less x, T.wide)

      new : (m : ℕ) → m ≡ found
          → (ones (at (set mins found x) m) ≡ k) × (has_tag (with_tag tags (tag_of x)) (tag_of (at (set mins found x) m)) ≡ true)
      new m e =
          let is : at (set mins found x) m ≡ x = ap (at (set mins found x)) e ∙ at_same mins found x h in
          (ap ones is ∙ c, ap (λ (y : ℕ). has_tag (with_tag tags (tag_of x)) (tag_of y)) is ∙ tag_new tags (tag_of x) inside)

      old : (m : ℕ) → base ≤ m → m ≢ found → m < found + 1
          → (ones (at (set mins found x) m) ≡ k) × (has_tag (with_tag tags (tag_of x)) (tag_of (at (set mins found x) m)) ≡ true)
      old m a ne b =
          let is : at (set mins found x) m ≡ at mins m = at_other mins found x m ne in
          let t = T.same m a (omega arith) in
          (ap ones is ∙ t.0, tag_old tags (tag_of x) inside (tag_of (at (set mins found x) m)) (ap (λ (y : ℕ). has_tag tags (tag_of y)) is ∙ t.1))

  -- the same of what the code has in hand
  pub tagged_more : found < length mins → {mins' tags' : List ℕ} → mins' ≡ set mins found x → tags' ≡ with_tag tags (tag_of x)
      → Tagged mins' base (found + 1) k tags'
  tagged_more h p q =
      subst (Tagged _ base (found + 1) k) (sym q)
      (subst (λ (m : List ℕ). Tagged m base (found + 1) k (with_tag tags (tag_of x))) (sym p) (with_row h))

  -- no row from `base` on is a subset of a row with another tag
  apart : has_tag tags (tag_of x) ≡ false → (m : ℕ) → base ≤ m → m < found → subset (at mins m) x ≡ false
  apart new m a b = elim (true_or_false (subset (at mins m) x)) [
    | inr f ↦ f
    | inl s ↦ let t = T.same m a b in elim (true_or_false (proper (at mins m) x)) [
      | inl p ↦ absurd (omega (arith, proper_fewer (at mins m) x p, t.0, c))
      | inr p ↦ absurd (not_both (ap (λ (y : ℕ). has_tag tags (tag_of y)) (sym (subset_same (at mins m) x s p)) ∙ t.1) new)
    ]
  ]

  -- a test of the rows that have to be tested answers for all
  pub tested : (r : ℕ) → ToTest base found tags (tag_of x) r → (b : Bool) → Scanned b mins r x → Scanned b mins found x
  tested r (inl e) b S = subst (λ (n : ℕ). Scanned b mins n x) e S
  tested r (inr (e, new)) b S = record {
    none = λ t m l. elim (dec_lt m base) [ yes h ↦ S.none t m (omega arith) | no h ↦ apart new m (omega arith) l ];
    some = λ f. let w = S.some f in (w.0, omega (arith, w.1, T.least), w.2);
  }
