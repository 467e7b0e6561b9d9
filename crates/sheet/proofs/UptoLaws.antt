-- Laws of what is said of the numbers below n: one number more, dependence on the numbers below n alone, each of them, and two sums that
-- differ at one number. Assumes nothing.
use Prim.Native.Nat.{ℕ, zero, suc, ◌+◌, ◌*◌, ◌≤◌, ◌<◌}
use mathlib.Core.Path.{◌≡◌, refl, sym, ap, ◌∙◌}
use mathlib.Core.Logic.{◌≢◌, ◌⊎◌, inl, inr}
use mathlib.Core.Bool.{Bool, true, false, cond, ◌&&◌, ◌||◌}
use mathlib.Core.List.{List, [], ◌∷◌, ◌++◌, append-nil}
use native.Mathlib.Nat.{not-suc-le-zero}
use native.Mathlib.Decide.{ℕ_discrete, dec_lt}
use native.Mathlib.Omega.{arith}
use Rattle.std.proofs.Common.{add-one}
use lib.Dec.{ltb}
use borrow.Author.Tests.{lt-ltb, le-ltb}
use lib.ListN.{length, take, length-append}
use Rattle.std.specs.List.{list_all, range_with_len, sum_by}
use Rattle.std.proofs.lemmas.List.{take_more}
use Rattle.std.proofs.lemmas.List.Folds.{list_all_more}
use Rattle.std.proofs.lemmas.List.Sums.{sum_by_push}
use Rattle.theory.specs.Pairings.{at}
use Rattle.sets.proofs.Bools.{and_left, and_right, and_both, or_left, true_or_false, not_both}
use Rattle.sheet.specs.Upto.{count_to, all_to, sum_to, those}

-- ---- one number more

module _ (f : ℕ → Bool) (n : ℕ) where
  pub count_yes : f n ≡ true → count_to f (suc n) ≡ suc (count_to f n)
  unfolding count_to
  count_yes p = rw p

  pub count_no : f n ≡ false → count_to f (suc n) ≡ count_to f n
  unfolding count_to
  count_no p = rw p

  pub those_yes : (rows : List ℕ) → f n ≡ true → those f rows (suc n) ≡ those f rows n ++ (at rows n ∷ [])
  unfolding those
  those_yes rows p = rw p

  pub those_no : (rows : List ℕ) → f n ≡ false → those f rows (suc n) ≡ those f rows n
  unfolding those
  those_no rows p = rw p (append-nil (those f rows n))

-- ---- they depend on the numbers below n alone

pub count_ext : (f g : ℕ → Bool) (n : ℕ) → ((i : ℕ) → i < n → f i ≡ g i) → count_to f n ≡ count_to g n
unfolding count_to
count_ext f g zero p = refl
count_ext f g (suc n) p = rw (count_ext f g n (λ i h. p i (omega arith)), p n (omega arith))

pub all_ext : (f g : ℕ → Bool) (n : ℕ) → ((i : ℕ) → i < n → f i ≡ g i) → all_to f n ≡ all_to g n
unfolding all_to
all_ext f g zero p = refl
all_ext f g (suc n) p = rw (all_ext f g n (λ i h. p i (omega arith)), p n (omega arith))

pub sum_ext : (f g : ℕ → ℕ) (n : ℕ) → ((i : ℕ) → i < n → f i ≡ g i) → sum_to f n ≡ sum_to g n
unfolding sum_to
sum_ext f g zero p = refl
sum_ext f g (suc n) p = rw (sum_ext f g n (λ i h. p i (omega arith)), p n (omega arith))

-- the rows as well
pub those_same : (f g : ℕ → Bool) (l m : List ℕ) (n : ℕ) → ((i : ℕ) → i < n → f i ≡ g i) → ((i : ℕ) → i < n → at l i ≡ at m i)
    → those f l n ≡ those g m n
unfolding those
those_same f g l m zero p q = refl
those_same f g l m (suc n) p q =
    rw (those_same f g l m n (λ i h. p i (omega arith)) (λ i h. q i (omega arith)), p n (omega arith), q n (omega arith))

pub those_ext : (f g : ℕ → Bool) (rows : List ℕ) (n : ℕ) → ((i : ℕ) → i < n → f i ≡ g i) → those f rows n ≡ those g rows n
those_ext f g rows n p = those_same f g rows rows n p (λ i h. refl)

-- ---- each of the numbers

-- below n + 1 is n, and what is below n
pub top_or-below : (n i : ℕ) → i < suc n → (i ≡ n) ⊎ (i < n)
top_or-below n i h = elim (ℕ_discrete i n) [ yes e ↦ inl e | no ne ↦ inr (omega arith) ]

pub all-at : (f : ℕ → Bool) (n : ℕ) → all_to f n ≡ true → (i : ℕ) → i < n → f i ≡ true
unfolding all_to
all-at f zero e i h = absurd (not-suc-le-zero h)
all-at f (suc n) e i h = elim (top_or-below n i h) [
  | inl q ↦ ap f q ∙ and_right (all_to f n) (f n) e
  | inr l ↦ all-at f n (and_left (all_to f n) (f n) e) i l
]

pub all_intro : (f : ℕ → Bool) (n : ℕ) → ((i : ℕ) → i < n → f i ≡ true) → all_to f n ≡ true
unfolding all_to
all_intro f zero p = refl
all_intro f (suc n) p = and_both (all_to f n) (f n) (all_intro f n (λ i h. p i (omega arith))) (p n (omega arith))

-- one number fails, and so not all pass
pub all_fails : (f : ℕ → Bool) (n i : ℕ) → i < n → f i ≡ false → all_to f n ≡ false
all_fails f n i h e = elim (true_or_false (all_to f n)) [
  | inl t ↦ absurd (not_both (all-at f n t i h) e)
  | inr q ↦ q
]

-- ---- how many

count_step : (b : Bool) (m n : ℕ) → m ≤ n → cond b (suc m) m ≤ suc n
count_step true m n h = omega arith
count_step false m n h = omega arith

pub count-le : (f : ℕ → Bool) (n : ℕ) → count_to f n ≤ n
unfolding count_to
count-le f zero = omega arith
count-le f (suc n) = count_step (f n) (count_to f n) n (count-le f n)

-- more numbers have no fewer that pass
pub count_more : (f : ℕ → Bool) (m n : ℕ) → m ≤ n → count_to f m ≤ count_to f n
unfolding count_to
count_more f m zero h = let none : m ≡ zero = omega arith in rw none (omega arith)
count_more f m (suc n) h = elim (top_or-below (suc n) m (omega arith)) [
  | inl e ↦ rw e (omega arith)
  | inr l ↦ go (f n) (count_to f m) (count_to f n) (count_more f m n (omega arith))
]
  where
    go : (b : Bool) (a c : ℕ) → a ≤ c → a ≤ cond b (suc c) c
    go true a c l = omega arith
    go false a c l = l

length_step : (b : Bool) (l : List ℕ) (x m : ℕ) → length l ≡ m → length (l ++ cond b (x ∷ []) []) ≡ cond b (suc m) m
length_step true l x m e = simp length-append (omega arith)
length_step false l x m e = simp length-append (omega arith)

pub length-those : (f : ℕ → Bool) (rows : List ℕ) (n : ℕ) → length (those f rows n) ≡ count_to f n
unfolding count_to those
length-those f rows zero = refl
length-those f rows (suc n) = length_step (f n) (those f rows n) (at rows n) (count_to f n) (length-those f rows n)

-- ---- sums

pub sum_part : (g : ℕ → ℕ) (n k : ℕ) → k < n → g k ≤ sum_to g n
unfolding sum_to
sum_part g zero k h = absurd (not-suc-le-zero h)
sum_part g (suc n) k h = elim (top_or-below n k h) [
  | inl e ↦ rw e (omega arith)
  | inr l ↦ omega (arith, sum_part g n k l)
]

-- two sums that differ at k alone differ as they do at k
pub sum_but_one : (f g : ℕ → ℕ) (n k : ℕ) → k < n → ((j : ℕ) → j < n → j ≢ k → f j ≡ g j) → sum_to f n + g k ≡ sum_to g n + f k
unfolding sum_to
sum_but_one f g zero k h p = absurd (not-suc-le-zero h)
sum_but_one f g (suc n) k h p = elim (top_or-below n k h) [
  | inl e ↦ rw e (omega (arith, sum_ext f g n (λ i l. p i (omega arith) (omega arith))))
  | inr l ↦ omega (arith, sum_but_one f g n k l (λ j m. p j (omega arith)), p n (omega arith) (omega arith))
]

pub sum_zero : (g : ℕ → ℕ) (n : ℕ) → ((i : ℕ) → i < n → g i ≡ zero) → sum_to g n ≡ zero
unfolding sum_to
sum_zero g zero p = refl
sum_zero g (suc n) p = rw (sum_zero g n (λ i h. p i (omega arith)), p n (omega arith))

pub sum_most : (g : ℕ → ℕ) (n c : ℕ) → ((i : ℕ) → i < n → g i ≤ c) → sum_to g n ≤ n * c
unfolding sum_to
sum_most g zero c p = omega arith
sum_most g (suc n) c p = omega (arith, sum_most g n c (λ i h. p i (omega arith)), p n (omega arith))

-- ---- the first n of a list

-- what std says of the first n of a list, said of the numbers below n
pub all_take : (p : ℕ → Bool) (l : List ℕ) (n : ℕ) → n ≤ length l → list_all p (take n l) ≡ all_to (λ k. p (at l k)) n
unfolding all_to
all_take p l zero h = refl
all_take p l (suc n) h =
    simp add-one at (list_all_more p l n zero (omega arith)) ∙ ap (λ (b : Bool). b && p (at l n)) (all_take p l n (omega arith))

pub sum_take : (g : ℕ → ℕ) (l : List ℕ) (n : ℕ) → n ≤ length l → sum_by g (take n l) ≡ sum_to (λ k. g (at l k)) n
unfolding sum_to
sum_take g l zero h = refl
sum_take g l (suc n) h =
    ap (sum_by g) (simp add-one at (take_more l n zero (omega arith))) ∙ sum_by_push g (take n l) (at l n)
    ∙ ap (λ (m : ℕ). m + g (at l n)) (sum_take g l n (omega arith))

-- ---- the numbers from a on

-- one number more that is passed over
passed_over : (f : ℕ → Bool) (a i : ℕ) → f a ≡ true → (ltb i (a + 1) || f i) ≡ (ltb i a || f i)
passed_over f a i e = elim (ℕ_discrete i a) [
  | yes q ↦ rw q (rw (lt-ltb a (a + 1) (omega arith), le-ltb a a (omega arith), e) refl)
  | no ne ↦
      ap (λ (b : Bool). b || f i) (elim (dec_lt i a) [
        | yes l ↦ lt-ltb i (a + 1) (omega arith) ∙ sym (lt-ltb i a l)
        | no far ↦ le-ltb i (a + 1) (omega (arith, far)) ∙ sym (le-ltb i a (omega (arith, far)))
      ])
]

-- what std says of the n numbers from a on, said of the numbers below a + n
pub all_range : (f : ℕ → Bool) (a n : ℕ) → list_all f (range_with_len a n) ≡ all_to (λ i. ltb i a || f i) (a + n)
all_range f a zero = sym (all_intro (λ i. ltb i a || f i) (a + zero) (λ i h. or_left (ltb i a) (f i) (lt-ltb i a (omega arith))))
all_range f a (suc n) = go (f a) refl (all_range f (a + 1) n)
  where
    go : (b : Bool) → f a ≡ b → list_all f (range_with_len (a + 1) n) ≡ all_to (λ i. ltb i (a + 1) || f i) (a + 1 + n)
        → (f a && list_all f (range_with_len (a + 1) n)) ≡ all_to (λ i. ltb i a || f i) (a + suc n)
    go true e later =
        let next : a + 1 + n ≡ a + suc n = omega arith in
        rw e
        (later ∙ all_ext (λ i. ltb i (a + 1) || f i) (λ i. ltb i a || f i) (a + 1 + n) (λ i h. passed_over f a i e)
        ∙ ap (all_to (λ i. ltb i a || f i)) next)
    go false e later = rw e (sym (all_fails (λ i. ltb i a || f i) (a + suc n) a (omega arith) (rw (le-ltb a a (omega arith), e) refl)))
