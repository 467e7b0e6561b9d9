-- A row more at the end of a list of rows, with no mate at first: pairings, dead values and the index stay what they were. Assumes nothing.
use Prim.Native.Nat.{ℕ, zero, suc, ◌+◌, ◌<◌}
use mathlib.Core.Path.{◌≡◌, refl, sym, ap, ◌∙◌}
use mathlib.Core.Logic.{◌⊎◌, inl, inr}
use mathlib.Core.Bool.{true}
use mathlib.Core.List.{List, [], ◌∷◌, ◌++◌}
use native.Mathlib.Nat.{not-suc-le-zero, le_of_suc-le-suc}
use native.Mathlib.Decide.{ℕ_discrete, dec_lt}
use native.Mathlib.Omega.{arith}
use lib.Bits.{bit_or}
use lib.ListN.{length, length-append, get_or-append}
use lib.Seq.{get_or-append_seam}
use Rattle.sets.specs.Sets.{has, single}
use Rattle.sets.specs.Rows.{width}
use Rattle.sets.proofs.Bools.{not_both, or_cases, or_left, or_right}
use Rattle.sets.proofs.Values.{has-empty, has-or, with_old, with_new, with_cases}
use Rattle.theory.specs.Pairings.{size, at, Seated, Pairing}
use Rattle.theory.proofs.Places.{past, at_less}
use Rattle.theory.proofs.Sizes.{size_by_rows}
use Rattle.pairing.specs.Code.Asking.{Index, Shut}

-- ---- lists

length_snoc : (l : List ℕ) (x : ℕ) → length (l ++ x ∷ []) ≡ suc (length l)
length_snoc l x = let e : length (l ++ x ∷ []) ≡ length l + 1 = length-append l (x ∷ []) in omega arith

-- a mate 0 at the end changes nothing
pub at_open : (p : List ℕ) (i : ℕ) → at (p ++ zero ∷ []) i ≡ at p i
at_open [] zero = refl
at_open [] (suc i) = refl
at_open (x ∷ p) zero = refl
at_open (x ∷ p) (suc i) = at_open p i

pub size_open : (p : List ℕ) → size (p ++ zero ∷ []) ≡ size p
unfolding size
size_open [] = refl
size_open (zero ∷ p) = size_open p
size_open (suc v ∷ p) = ap suc (size_open p)

pub seated_open : (p : List ℕ) (v : ℕ) → Seated (p ++ zero ∷ []) v → Seated p v
seated_open p v (i, e) = (i, sym (at_open p i) ∙ e)

pub open_seated : (p : List ℕ) (v : ℕ) → Seated p v → Seated (p ++ zero ∷ []) v
open_seated p v (i, e) = (i, at_open p i ∙ e)

-- a pairing as large as the rows are many gives each a mate
pub full_mate : (p : List ℕ) → size p ≡ length p → (i : ℕ) → i < length p → (w : ℕ) × (at p i ≡ suc w)
unfolding size
full_mate [] e i h = absurd (not-suc-le-zero h)
full_mate (zero ∷ p) e i h = absurd (omega (arith, e, size_by_rows p))
full_mate (suc v ∷ p) e zero h = (v, refl)
full_mate (suc v ∷ p) e (suc i) h = full_mate p (omega arith) i (le_of_suc-le-suc h)

-- ---- rows

module _ (R : List ℕ) (row : ℕ) where
  row_before : (i : ℕ) → i < length R → at (R ++ row ∷ []) i ≡ at R i
  row_before i h = get_or-append R (row ∷ []) zero i h

  pub row_last : at (R ++ row ∷ []) (length R) ≡ row
  row_last = get_or-append_seam R row [] zero

  -- a row that holds v is one of those before, or the last
  pub holds_cases : (i v : ℕ) → has (at (R ++ row ∷ []) i) v ≡ true
      → ((i < length R) × (has (at R i) v ≡ true)) ⊎ ((i ≡ length R) × (has row v ≡ true))
  holds_cases i v t = elim (dec_lt i (length R)) [
    | yes h ↦ inl (h, ap (λ (r : ℕ). has r v) (sym (row_before i h)) ∙ t)
    | no n ↦ elim (ℕ_discrete i (length R)) [
      | yes e ↦ inr (e, ap (λ (r : ℕ). has r v) (sym row_last ∙ ap (at (R ++ row ∷ [])) (sym e)) ∙ t)
      | no ne ↦ absurd (not_both t (ap (λ (r : ℕ). has r v) (past (R ++ row ∷ []) i (omega (arith, length_snoc R row))) ∙ has-empty v))
    ]
  ]

  holds_inside : (i v : ℕ) → has (at R i) v ≡ true → i < length R
  holds_inside i v t =
      elim (dec_lt i (length R)) [ yes h ↦ h | no n ↦ absurd (not_both t (ap (λ (r : ℕ). has r v) (past R i (omega arith)) ∙ has-empty v)) ]

  pub holds_before : (i v : ℕ) → has (at R i) v ≡ true → has (at (R ++ row ∷ []) i) v ≡ true
  holds_before i v t = ap (λ (r : ℕ). has r v) (row_before i (holds_inside i v t)) ∙ t

  pub pairing_open : (p : List ℕ) → Pairing width R p → Pairing width (R ++ row ∷ []) (p ++ zero ∷ [])
  pairing_open p P = record {
    fits = length_snoc p zero ∙ ap suc P.fits ∙ sym (length_snoc R row);
    holds = λ i v e. let k = P.holds i v (sym (at_open p i) ∙ e) in (k.0, holds_before i v k.1);
    apart = λ i j v e f. P.apart i j v (sym (at_open p i) ∙ e) (sym (at_open p j) ∙ f);
  }

  pub shut_open : (p : List ℕ) (dead : ℕ) → Pairing width R p → Shut R p dead → Shut (R ++ row ∷ []) (p ++ zero ∷ []) dead
  shut_open p dead P S u t =
      let k = S u t in
      let inside : k.0 < length R = omega (arith, at_less p k.0 u k.1, P.fits) in
      (k.0, at_open p k.0 ∙ k.1, λ v h. k.2 v (ap (λ (r : ℕ). has r v) (sym (row_before k.0 inside)) ∙ h))

  -- the new row is heavy, so that a search finds it
  pub index_open : (columns : List ℕ) (heavy : ℕ) → Index R columns heavy → Index (R ++ row ∷ []) columns (bit_or heavy (single (length R)))
  index_open columns heavy X = record { wide = X.wide; complete = complete; inside = inside }
    where
      more : ℕ
      more = bit_or heavy (single (length R))

      either : (v j : ℕ) → (has (at columns v) j ≡ true) ⊎ (has more j ≡ true) → has (bit_or (at columns v) more) j ≡ true
      either v j (inl c) = has-or (at columns v) more j ∙ or_left (has (at columns v) j) (has more j) c
      either v j (inr m) = has-or (at columns v) more j ∙ or_right (has (at columns v) j) (has more j) m

      complete : (i v : ℕ) → has (at (R ++ row ∷ []) i) v ≡ true → has (bit_or (at columns v) more) i ≡ true
      complete i v t = elim (holds_cases i v t) [
        | inr e ↦ either v i (inr (ap (has more) e.0 ∙ with_new heavy (length R)))
        | inl b ↦ elim (or_cases (has (at columns v) i) (has heavy i) (sym (has-or (at columns v) heavy i) ∙ X.complete i v b.1)) [
          | inl c ↦ either v i (inl c)
          | inr y ↦ either v i (inr (with_old heavy (length R) i y))
        ]
      ]

      old : (v j : ℕ) → (has (at columns v) j ≡ true) ⊎ (has heavy j ≡ true) → j < length (R ++ row ∷ [])
      old v j t = omega (arith, length_snoc R row, X.inside j v (was t))
        where
          was : (has (at columns v) j ≡ true) ⊎ (has heavy j ≡ true) → has (bit_or (at columns v) heavy) j ≡ true
          was (inl c) = has-or (at columns v) heavy j ∙ or_left (has (at columns v) j) (has heavy j) c
          was (inr y) = has-or (at columns v) heavy j ∙ or_right (has (at columns v) j) (has heavy j) y

      inside : (i v : ℕ) → has (bit_or (at columns v) more) i ≡ true → i < length (R ++ row ∷ [])
      inside i v t = elim (or_cases (has (at columns v) i) (has more i) (sym (has-or (at columns v) more i) ∙ t)) [
        | inl c ↦ old v i (inl c)
        | inr m ↦ elim (with_cases heavy (length R) i m) [ inl e ↦ omega (arith, e, length_snoc R row) | inr y ↦ old v i (inr y) ]
      ]
