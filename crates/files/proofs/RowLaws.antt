-- The first n rows: the list of them, and what the lowest that passes a test is. Assumes nothing.
use Prim.Native.Nat.{ℕ, zero, suc, ◌+◌, ◌<◌}
use mathlib.Core.Path.{◌≡◌, refl, ◌∙◌}
use mathlib.Core.Logic.{inl, inr}
use mathlib.Core.Bool.{Bool, true, false}
use mathlib.Core.List.{[], ◌∷◌, ◌++◌}
use native.Mathlib.Nat.{not-suc-le-zero}
use native.Mathlib.Decide.{ℕ_discrete}
use native.Mathlib.Omega.{arith}
use native.Mathlib.Numerals.{add-one}
use lib.ListN.{length, get_or, length-append, get_or-append}
use lib.Seq.{get_or_at}
use Rattle.std.specs.Prelude.{Option, Some, None}
use Rattle.sheet.proofs.UptoLaws.{top_or-below}
use Rattle.files.specs.Rows.{list_to, or_at, lowest_to}

-- ---- a list of the first n, at a place

pub length_list : (f : ℕ → ℕ) (n : ℕ) → length (list_to f n) ≡ n
unfolding list_to
length_list f zero = refl
length_list f (suc n) =
    let e : length (list_to f n ++ (f n ∷ [])) ≡ length (list_to f n) + 1 = length-append (list_to f n) (f n ∷ []) in
    omega (arith, length_list f n)

pub list_at : (f : ℕ → ℕ) (n i : ℕ) → i < n → get_or (list_to f n) i zero ≡ f i
unfolding list_to
list_at f zero i h = absurd (not-suc-le-zero h)
list_at f (suc n) i h = elim (ℕ_discrete i n) [
  | yes e ↦ rw e (get_or_at (list_to f n) (f n) [] zero n (length_list f n))
  | no ne ↦ get_or-append (list_to f n) (f n ∷ []) zero i (omega (arith, length_list f n)) ∙ list_at f n i (omega arith)
]

-- ---- the lowest that passes

-- none below n passes: n is the lowest that does, or none below n + 1 does
pub lowest_here : (f : ℕ → Bool) (n : ℕ) → lowest_to f n ≡ None → f n ≡ true → lowest_to f (n + 1) ≡ Some n
unfolding lowest_to
lowest_here f n none e = rw (add-one n, none, e) refl

pub lowest_pass : (f : ℕ → Bool) (n : ℕ) → lowest_to f n ≡ None → f n ≡ false → lowest_to f (n + 1) ≡ None
unfolding lowest_to
lowest_pass f n none e = rw (add-one n, none, e) refl

-- none is found where none passes
pub lowest_none : (f : ℕ → Bool) (n : ℕ) → ((j : ℕ) → j < n → f j ≡ false) → lowest_to f n ≡ None
unfolding lowest_to
lowest_none f zero p = refl
lowest_none f (suc n) p = rw (lowest_none f n (λ j h. p j (omega arith)), p n (omega arith)) refl

-- what was found stays found
pub lowest_stays : (f : ℕ → Bool) (n k i : ℕ) → lowest_to f n ≡ Some i → lowest_to f (k + n) ≡ Some i
unfolding lowest_to
lowest_stays f n zero i e = let z : zero + n ≡ n = omega arith in rw z e
lowest_stays f n (suc k) i e = let z : suc k + n ≡ suc (k + n) = omega arith in rw (z, lowest_stays f n k i e) refl

-- number i passes, and none below it does
pub record Lowest (f : ℕ → Bool) (n i : ℕ) : Type 0 where
  pub inside : i < n
  pub passes : f i ≡ true
  pub before : (j : ℕ) → j < i → f j ≡ false

abbrev Says : (ℕ → Bool) → ℕ → Option ℕ → Type 0
Says f n None = (j : ℕ) → j < n → f j ≡ false
Says f n (Some i) = Lowest f n i

says : (f : ℕ → Bool) (n : ℕ) → Says f n (lowest_to f n)
unfolding lowest_to
says f zero = λ j h. absurd (omega arith)
says f (suc n) = go (lowest_to f n) (f n) refl (says f n)
  where
    go : (found : Option ℕ) (b : Bool) → f n ≡ b → Says f n found → Says f (suc n) (or_at found b n)
    go (Some i) b e s = record { inside = omega (arith, s.inside); passes = s.passes; before = s.before }
    go None true e s = record { inside = omega arith; passes = e; before = s }
    go None false e s = λ j h. elim (top_or-below n j h) [
      | inl same ↦ rw same e
      | inr lower ↦ s j lower
    ]

pub lowest_says : (f : ℕ → Bool) (n i : ℕ) → lowest_to f n ≡ Some i → Lowest f n i
lowest_says f n i e = rw e at (says f n)

-- and none passes where none is found
pub none_passes : (f : ℕ → Bool) (n : ℕ) → lowest_to f n ≡ None → (j : ℕ) → j < n → f j ≡ false
none_passes f n e = rw e at (says f n)
