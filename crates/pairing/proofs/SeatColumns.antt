-- Rows go into the columns of their values, and the index stays complete. Assumes nothing.
use Prim.Native.Nat.{ℕ, zero, ◌<◌}
use mathlib.Core.Path.{◌≡◌, refl, sym, ap, ◌∙◌, subst}
use mathlib.Core.Logic.{◌⊎◌, inl, inr}
use mathlib.Core.Bool.{true}
use mathlib.Core.List.{List}
use native.Mathlib.Omega.{arith}
use lib.Bits.{bit_or}
use lib.ListN.{length, set, length-set}
use borrow.Author.Tests.{eqb-true}
use Rattle.sets.specs.Sets.{has, single, minus}
use Rattle.sets.proofs.Bools.{true_or_false, not_both, or_cases, or_left, or_right}
use Rattle.sets.proofs.Values.{has-empty, has-or, has-single, with_old, with_new, with_cases, minus_in, minus_out}
use Rattle.theory.specs.Pairings.{at}
use Rattle.theory.proofs.Places.{stored, at_same}
use Rattle.pairing.specs.Code.Asking.{Index}
use Rattle.pairing.specs.Code.Seats.{Entered}

-- what is not one value is left of a set without it
pub left_or_same : (a v u : ℕ) → has a u ≡ true → (u ≡ v) ⊎ (has (minus a (single v)) u ≡ true)
left_or_same a v u h = elim (true_or_false (has (single v) u)) [
  | inl e ↦ inl (sym (eqb-true v u (sym (has-single v u) ∙ e)))
  | inr f ↦ inr (minus_in a (single v) u h f)
]

-- ---- one row, a value at a time

-- row i stands in the columns of its values, but for those in `left`
pub record Entering (row i : ℕ) (columns columns' : List ℕ) (left : ℕ) : Type 0 where
  pub wide : length columns' ≡ length columns
  pub new : (v : ℕ) → has row v ≡ true → (has left v ≡ true) ⊎ (has (at columns' v) i ≡ true)
  pub old : (j v : ℕ) → has (at columns v) j ≡ true → has (at columns' v) j ≡ true
  pub from : (j v : ℕ) → has (at columns' v) j ≡ true → (j ≡ i) ⊎ (has (at columns v) j ≡ true)

module _ {row i : ℕ} {columns : List ℕ} where
  pub enter_start : Entering row i columns columns row
  enter_start = record { wide = refl; new = λ v t. inl t; old = λ j v t. t; from = λ j v t. inr t }

  module _ {columns' : List ℕ} {left : ℕ} (E : Entering row i columns columns' left) where
    pub enter_end : left ≡ zero → Entered row i columns columns'
    enter_end z = record {
      wide = E.wide;
      new = λ v t. elim (E.new v t) [ inl l ↦ absurd (not_both l (ap (λ (x : ℕ). has x v) z ∙ has-empty v)) | inr c ↦ c ];
      old = E.old;
      from = E.from;
    }

    -- v is the next value
    next : (v : ℕ) → v < length columns'
        → Entering row i columns (set columns' v (bit_or (at columns' v) (single i))) (minus left (single v))
    next v inside = record {
      wide = length-set columns' v more ∙ E.wide;
      new = λ u t. elim (E.new u t) [
        | inr c ↦ inr (kept i u c)
        | inl l ↦ elim (left_or_same left v u l) [
          | inl s ↦ inr (ap (λ (x : ℕ). has (at columns'' x) i) s ∙ ap (λ (x : ℕ). has x i) put ∙ with_new (at columns' v) i)
          | inr m ↦ inl m
        ]
      ];
      old = λ j u t. kept j u (E.old j u t);
      from = λ j u t. elim (stored columns' v more u inside) [
        | inl s ↦ elim (with_cases (at columns' v) i j (ap (λ (x : ℕ). has x j) (sym s.1) ∙ t)) [
          | inl e ↦ inl e
          | inr h ↦ E.from j u (ap (λ (x : ℕ). has (at columns' x) j) s.0 ∙ h)
        ]
        | inr s ↦ E.from j u (ap (λ (x : ℕ). has x j) (sym s.1) ∙ t)
      ];
    }
      where
        more : ℕ
        more = bit_or (at columns' v) (single i)

        columns'' : List ℕ
        columns'' = set columns' v more

        put : at columns'' v ≡ more
        put = at_same columns' v more inside

        kept : (j u : ℕ) → has (at columns' u) j ≡ true → has (at columns'' u) j ≡ true
        kept j u t = elim (stored columns' v more u inside) [
          | inl s ↦ ap (λ (x : ℕ). has x j) s.1 ∙ with_old (at columns' v) i j (ap (λ (x : ℕ). has (at columns' x) j) (sym s.0) ∙ t)
          | inr s ↦ ap (λ (x : ℕ). has x j) s.1 ∙ t
        ]

    -- the same of what the code has in hand
    pub enter_next : (v : ℕ) → v < length columns' → {rest put : ℕ} {columns'' : List ℕ} → rest ≡ minus left (single v)
        → put ≡ bit_or (at columns' v) (single i) → columns'' ≡ set columns' v put → Entering row i columns columns'' rest
    enter_next v inside {columns'' = columns''} e f g =
        subst (Entering row i columns columns'') (sym e)
        (subst (λ (l : List ℕ). Entering row i columns l (minus left (single v))) (sym (g ∙ ap (set columns' v) f)) (next v inside))

-- ---- the index

-- row i has been entered, and need not be heavy any more
pub index_entered : (rows columns columns' : List ℕ) (heavy i : ℕ) → Index rows columns heavy → i < length rows
    → Entered (at rows i) i columns columns' → Index rows columns' (minus heavy (single i))
index_entered rows columns columns' heavy i X h E = record { wide = E.wide ∙ X.wide; complete = complete; inside = inside }
  where
    complete : (j v : ℕ) → has (at rows j) v ≡ true → has (bit_or (at columns' v) (minus heavy (single i))) j ≡ true
    complete j v t = has-or (at columns' v) (minus heavy (single i)) j
        ∙ elim (or_cases (has (at columns v) j) (has heavy j) (sym (has-or (at columns v) heavy j) ∙ X.complete j v t)) [
          | inl c ↦ or_left (has (at columns' v) j) (has (minus heavy (single i)) j) (E.old j v c)
          | inr y ↦ elim (left_or_same heavy i j y) [
            | inl s ↦
                or_left (has (at columns' v) j) (has (minus heavy (single i)) j)
                (ap (has (at columns' v)) s ∙ E.new v (ap (λ (k : ℕ). has (at rows k) v) (sym s) ∙ t))
            | inr m ↦ or_right (has (at columns' v) j) (has (minus heavy (single i)) j) m
          ]
        ]

    inside : (j v : ℕ) → has (bit_or (at columns' v) (minus heavy (single i))) j ≡ true → j < length rows
    inside j v t =
        elim (or_cases (has (at columns' v) j) (has (minus heavy (single i)) j) (sym (has-or (at columns' v) (minus heavy (single i)) j) ∙ t)) [
          | inl c ↦ elim (E.from j v c) [
            | inl s ↦ omega (arith, s, h)
            | inr o ↦ X.inside j v (has-or (at columns v) heavy j ∙ or_left (has (at columns v) j) (has heavy j) o)
          ]
          | inr m ↦ X.inside j v (has-or (at columns v) heavy j ∙ or_right (has (at columns v) j) (has heavy j) (minus_out heavy (single i) j m).0)
        ]
