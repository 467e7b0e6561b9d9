-- The rows of the first step: every row of the view has one of them for a subset; they are minimal, and no two of them are equal. Assumes nothing.
use Prim.Native.Nat.{ℕ, zero, suc, ◌<◌}
use mathlib.Core.Path.{◌≡◌, refl, sym, ap, ◌∙◌}
use mathlib.Core.Logic.{◌≢◌, ◌⊎◌, inl, inr}
use mathlib.Core.Bool.{Bool, true, false, not, ◌&&◌, ◌||◌, or-false}
use mathlib.Core.List.Memᴰ
use mathlib.Core.List.{List, [], ◌∷◌, Memᴰ}
use native.Mathlib.Nat.{le_of_suc-le-suc, not-suc-le-zero}
use native.Mathlib.Decide.{ℕ_discrete}
use lib.Dec.{eqb}
use lib.ListN.{length, take}
use borrow.Author.Tests.{eq-eqb, ne_eqb, not-true}
use Rattle.sets.specs.Sets.{subset, proper}
use Rattle.sets.proofs.Bools.{or_left, or_right, and_left, and_right, and_both, not_both, is_false, false_not}
use Rattle.sets.proofs.Subsets.{proper-subset, proper_less, subset_refl, subset_trans}
use Rattle.theory.specs.Pairings.{among, at}
use Rattle.theory.specs.Kept.{marked, pick, minimal, firsts_after, firsts, minimals}
use Rattle.theory.specs.Code.Search.{Different}
use Rattle.theory.proofs.Places.{descend}

-- ---- minimal rows

pub minimal_out : (view : List ℕ) (r a : ℕ) → minimal view r ≡ true → Memᴰ a view → proper a r ≡ false
unfolding minimal
minimal_out [] r a e m = absurd (Memᴰ.not-nil m)
minimal_out (b ∷ view) r a e m = go (λ k. minimal_out view r a (and_right (not (proper b r)) (minimal view r) e) k) (Memᴰ.cases_cons m)
  where
    go : (Memᴰ a view → proper a r ≡ false) → (a ≡ b) ⊎ Memᴰ a view → proper a r ≡ false
    go rec (inl s) = ap (λ (x : ℕ). proper x r) s ∙ not-true (proper b r) (and_left (not (proper b r)) (minimal view r) e)
    go rec (inr k) = rec k

-- a row is minimal, or the view has a proper subset of it
pub minimal? : (view : List ℕ) (r : ℕ) → (minimal view r ≡ true) ⊎ ((a : ℕ) × Memᴰ a view × (proper a r ≡ true))
unfolding minimal
minimal? [] r = inl refl
minimal? (b ∷ view) r = go (proper b r) refl (minimal? view r)
  where
    go : (c : Bool) → proper b r ≡ c → (minimal view r ≡ true) ⊎ ((a : ℕ) × Memᴰ a view × (proper a r ≡ true))
        → ((not c && minimal view r) ≡ true) ⊎ ((a : ℕ) × Memᴰ a (b ∷ view) × (proper a r ≡ true))
    go true e q = inr (b, Memᴰ.head refl, e)
    go false e (inl m) = inl m
    go false e (inr t) = inr (t.0, Memᴰ.tail t.1, t.2)

-- a minimal row of the view that is a subset of r
pub record Under (view : List ℕ) (r : ℕ) : Type 0 where
  pub row : ℕ
  pub there : Memᴰ row view
  pub least : minimal view row ≡ true
  pub inside : subset row r ≡ true

pub under : (view : List ℕ) (r : ℕ) → Memᴰ r view → Under view r
under view r m = descend (λ a. Memᴰ a view) (Under view) (λ a. a) step r m
  where
    step : (a : ℕ) → Memᴰ a view → Under view a ⊎ ((b : ℕ) × Memᴰ b view × (b < a) × (Under view b → Under view a))
    step a m = elim (minimal? view a) [
      | inl e ↦ inl (record { row = a; there = m; least = e; inside = subset_refl a })
      | inr t ↦ inr (
        t.0,
        t.1,
        proper_less t.0 a t.2,
        λ u. record {
          row = u.row;
          there = u.there;
          least = u.least;
          inside = subset_trans u.row t.0 a u.inside (proper-subset t.0 a t.2);
        },
      )
    ]

-- ---- the first of equals

length_after : (view before rows : List ℕ) → length (firsts_after view before rows) ≡ length rows
unfolding firsts_after
length_after view before [] = refl
length_after view before (r ∷ rows) = ap suc (length_after view (r ∷ before) rows)

pub length-firsts : (view : List ℕ) → length (firsts view) ≡ length view
unfolding firsts
length-firsts view = length_after view [] view

-- a minimal set that does not stand before is marked
after_in : (view before rows : List ℕ) (x : ℕ) → minimal view x ≡ true → among x before ≡ false → Memᴰ x rows
    → Memᴰ x (pick (firsts_after view before rows) rows)
unfolding firsts_after pick among
after_in view before [] x e f m = absurd (Memᴰ.not-nil m)
after_in view before (r ∷ rows) x e f m =
    go (λ n k. after_in view (r ∷ before) rows x e (new n) k) (ℕ_discrete x r) (minimal view r && not (among r before)) refl (Memᴰ.cases_cons m)
  where
    new : x ≢ r → (eqb x r || among x before) ≡ false
    new n = rw (ne_eqb x r n) f

    go : (x ≢ r → Memᴰ x rows → Memᴰ x (pick (firsts_after view (r ∷ before) rows) rows)) → Dec (x ≡ r) → (b : Bool)
        → (minimal view r && not (among r before)) ≡ b
        → (x ≡ r) ⊎ Memᴰ x rows → Memᴰ x (pick (b ∷ firsts_after view (r ∷ before) rows) (r ∷ rows))
    go rec (yes s) true g k = Memᴰ.head s
    go rec (yes s) false g k =
        absurd
        (not_both
        (and_both (minimal view r) (not (among r before)) (ap (minimal view) (sym s) ∙ e)
        (false_not (among r before) (ap (λ (y : ℕ). among y before) (sym s) ∙ f))) g)
    go rec (no n) b g (inl s) = absurd (n s)
    go rec (no n) true g (inr k) = Memᴰ.tail (rec n k)
    go rec (no n) false g (inr k) = rec n k

-- what is marked is minimal and does not stand before
abbrev Fresh : List ℕ → List ℕ → ℕ → Type 0
Fresh view before x = (minimal view x ≡ true) × (among x before ≡ false)

after_out : (view before rows : List ℕ) (x : ℕ) → Memᴰ x (pick (firsts_after view before rows) rows) → Fresh view before x
unfolding firsts_after pick among
after_out view before [] x m = absurd (Memᴰ.not-nil m)
after_out view before (r ∷ rows) x m = go (λ k. after_out view (r ∷ before) rows x k) (minimal view r && not (among r before)) refl m
  where
    later : Fresh view (r ∷ before) x → Fresh view before x
    later (e, f) = (e, is_false (among x before) (λ g. not_both (or_right (eqb x r) (among x before) g) f))

    this : (minimal view r && not (among r before)) ≡ true → x ≡ r → Fresh view before x
    this g s = (
      ap (minimal view) s ∙ and_left (minimal view r) (not (among r before)) g,
      ap (λ (y : ℕ). among y before) s ∙ not-true (among r before) (and_right (minimal view r) (not (among r before)) g),
    )

    go : (Memᴰ x (pick (firsts_after view (r ∷ before) rows) rows) → Fresh view (r ∷ before) x) → (b : Bool)
        → (minimal view r && not (among r before)) ≡ b
        → Memᴰ x (pick (b ∷ firsts_after view (r ∷ before) rows) (r ∷ rows)) → Fresh view before x
    go rec true g k = elim (Memᴰ.cases_cons k) [ inl s ↦ this g s | inr l ↦ later (rec l) ]
    go rec false g k = later (rec k)

after_different : (view before rows : List ℕ) → Different (pick (firsts_after view before rows) rows)
unfolding firsts_after pick among
after_different view before [] = tt
after_different view before (r ∷ rows) = go (after_different view (r ∷ before) rows) (minimal view r && not (among r before))
  where
    go : Different (pick (firsts_after view (r ∷ before) rows) rows) → (b : Bool)
        → Different (pick (b ∷ firsts_after view (r ∷ before) rows) (r ∷ rows))
    go rec true = (λ m. not_both (or_left (eqb r r) (among r before) (eq-eqb r r refl)) (after_out view (r ∷ before) rows r m).1, rec)
    go rec false = rec

-- ---- the rows of the first step

pub minimals_different : (view : List ℕ) → Different (minimals view)
unfolding firsts
minimals_different view = after_different view [] view

pub minimals-minimal : (view : List ℕ) (x : ℕ) → Memᴰ x (minimals view) → minimal view x ≡ true
unfolding firsts
minimals-minimal view x m = (after_out view [] view x m).0

pub minimals_cover : (view : List ℕ) (r : ℕ) → Memᴰ r view → (m : ℕ) × Memᴰ m (minimals view) × (subset m r ≡ true)
unfolding firsts among
minimals_cover view r m = let u = under view r m in (u.row, after_in view [] view u.row u.least refl u.there, u.inside)

-- ---- by place, for a program that compares a row with those before it

or_turn : (a b c : Bool) → (a || (b || c)) ≡ ((b || a) || c)
or_turn true true c = refl
or_turn true false c = refl
or_turn false true c = refl
or_turn false false c = refl

after_at : (view before rows : List ℕ) (i : ℕ) → i < length rows
    → marked (firsts_after view before rows) i ≡ (minimal view (at rows i) && not (among (at rows i) (take i rows) || among (at rows i) before))
unfolding firsts_after among
after_at view before [] i h = absurd (not-suc-le-zero h)
after_at view before (r ∷ rows) zero h = refl
after_at view before (r ∷ rows) (suc i) h =
    after_at view (r ∷ before) rows i (le_of_suc-le-suc h)
    ∙ ap (λ (b : Bool). minimal view (at rows i) && not b) (or_turn (among (at rows i) (take i rows)) (eqb (at rows i) r) (among (at rows i) before))

pub firsts_at : (view : List ℕ) (i : ℕ) → i < length view
    → marked (firsts view) i ≡ (minimal view (at view i) && not (among (at view i) (take i view)))
unfolding firsts among
firsts_at view i h = after_at view [] view i h ∙ ap (λ (b : Bool). minimal view (at view i) && not b) (or-false (among (at view i) (take i view)))
