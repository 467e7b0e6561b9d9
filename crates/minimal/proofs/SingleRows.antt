-- The rows of one value are marked in view order, of equal ones the first. Assumes nothing.
use Prim.Native.Nat.{ℕ, zero, ◌+◌, ◌<◌}
use mathlib.Core.Path.{◌≡◌, sym, ap, ◌∙◌, subst}
use mathlib.Core.Logic.{◌≢◌, inl, inr}
use mathlib.Core.Bool.{Bool, true, false}
use mathlib.Core.List.{List}
use native.Mathlib.Nat.{not-suc-le-zero}
use native.Mathlib.Decide.{ℕ_discrete}
use native.Mathlib.Omega.{arith}
use lib.Bits.{bit_and, bit_or}
use lib.Dec.{eqb}
use lib.ListN.{length, set, length-set}
use lib.Seq.{get_or-set_other}
use Rattle.sets.specs.Sets.{has, single, subset, minus}
use Rattle.sets.proofs.Bools.{not_both, is_false, or_right}
use Rattle.sets.proofs.Values.{has-empty, has-or, has_same, with_old, with_cases}
use Rattle.sets.proofs.Subsets.{subset-has, has-subset, subset_refl, subset_antisym, minus-empty}
use Rattle.sets.proofs.ValuesBelow.{some_value}
use Rattle.theory.specs.Pairings.{at}
use Rattle.theory.specs.Kept.{marked, firsts}
use Rattle.theory.proofs.Marks.{mark_same, mark_cases}
use Rattle.minimal.specs.Code.Marking.{NoMarks, NoneEmpty, IsSingle, Alone, Singles, Clear, Before, Marks}
use Rattle.minimal.proofs.Apart.{apart, common, single_only, apart_clear, repeats?}
use Rattle.minimal.proofs.FirstRows.{Strikes, equal_strikes, first_yes, first_no}

-- the first i rows are passed: s has the values of those of one value, and these have their marks
pub record Passed (rows : List ℕ) (keep : List Bool) (i s : ℕ) : Type 0 where
  pub long : length keep ≡ length rows
  pub singles : Singles rows i s
  pub right : (j v : ℕ) → j < i → at rows j ≡ single v → marked keep j ≡ marked (firsts rows) j
  pub only : (j : ℕ) → marked keep j ≡ true → (v : ℕ) × (j < i) × (at rows j ≡ single v)

pub pass_start : (rows : List ℕ) (keep : List Bool) → length keep ≡ length rows → NoMarks keep → Passed rows keep zero zero
pass_start rows keep l none = record {
  long = l;
  singles = record { from = λ v h. absurd (not_both h (has-empty v)); all = λ v t. absurd (not-suc-le-zero t.1) };
  right = λ j v h. absurd (not-suc-le-zero h);
  only = λ j t. absurd (not_both t (none j));
}

-- a set of values of one row, which is not empty, is the row of that value
within-single : (a v : ℕ) → a ≢ zero → subset a (single v) ≡ true → a ≡ single v
within-single a v ne e =
    subset_antisym a (single v) e (has-subset (single v) a (λ u h. subst (λ (x : ℕ). has a x ≡ true) (sym same ∙ single_only v u h) t.1))
  where
    t : (u : ℕ) × (has a u ≡ true)
    t = some_value a ne

    same : v ≡ t.0
    same = single_only v t.0 (subset-has a (single v) e t.0 t.1)

-- ---- whether a row has one value

-- r answers whether nothing is left of a row once a value of it is taken out
pub one_value : (r : Bool) (x v s : ℕ) → has x v ≡ true → s ≡ minus x (single v) → r ≡ eqb s zero → IsSingle r x
one_value r x v s there is answer = record {
  one = λ t. (v, subset_antisym x (single v) (inside ∙ t) (has-subset (single v) x (λ u h. ap (has x) (sym (single_only v u h)) ∙ there)));
  more = λ f u d.
      let same = d ∙ ap single (single_only u v (ap (λ (y : ℕ). has y v) (sym d) ∙ there)) in
      not_both (ap (λ (y : ℕ). subset y (single v)) same ∙ subset_refl (single v)) (inside ∙ f);
}
  where
    inside : subset x (single v) ≡ r
    inside = sym (answer ∙ ap (λ (n : ℕ). eqb n zero) is ∙ minus-empty x (single v))

-- ---- one row

module _ {rows : List ℕ} {keep : List Bool} {i s : ℕ} (P : Passed rows keep i s) (h : i < length rows) where
  -- the row is passed with no new mark: s has its value if it has just one
  same_marks : ((v : ℕ) → at rows i ≡ single v → has s v ≡ true) → Passed rows keep (i + 1) s
  same_marks old = record {
    long = P.long;
    singles = record {
      from = λ v e. let t = P.singles.from v e in (t.0, omega (arith, t.1), t.2);
      all = λ v t. elim (ℕ_discrete t.0 i) [
        | yes e ↦ old v (ap (at rows) (sym e) ∙ t.2)
        | no ne ↦ P.singles.all v (t.0, omega (arith, t.1), t.2)
      ];
    };
    right = λ j v l q. elim (ℕ_discrete j i) [
      | yes e ↦ ap (marked keep) e ∙ unmarked v (ap (at rows) (sym e) ∙ q) ∙ ap (marked (firsts rows)) (sym e)
      | no ne ↦ P.right j v (omega arith) q
    ];
    only = λ j t. let o = P.only j t in (o.0, omega (arith, o.1), o.2);
  }
    where
      unmarked : (v : ℕ) → at rows i ≡ single v → marked keep i ≡ marked (firsts rows) i
      unmarked v q =
          let t = P.singles.from v (old v q) in
          is_false (marked keep i) (λ m. let o = P.only i m in absurd (omega (arith, o.1)))
          ∙ sym (first_no rows i h t.0 (omega (arith, t.1)) (equal_strikes rows t.0 i (t.2 ∙ sym q) t.1))

  -- it has more values
  pub pass_other : ((v : ℕ) → at rows i ≢ single v) → Passed rows keep (i + 1) s
  pass_other more = same_marks (λ v e. absurd (more v e))

  module _ (v : ℕ) (q : at rows i ≡ single v) where
    -- it has one value, and is not the first such row
    pub pass_again : bit_and (at rows i) s ≢ zero → Passed rows keep (i + 1) s
    pass_again ne =
        let t = common (at rows i) s ne in
        same_marks (λ u e. subst (λ (x : ℕ). has s x ≡ true) (sym (single_only u t.0 (ap (λ (x : ℕ). has x t.0) (sym e) ∙ t.1))) t.2)

    -- it has one value, and is the first such row
    pub pass_new : NoneEmpty rows → bit_and (at rows i) s ≡ zero → Passed rows (set keep i true) (i + 1) (bit_or s (at rows i))
    pass_new full z = subst (λ (x : ℕ). Passed rows (set keep i true) (i + 1) (bit_or s x)) (sym q) (record {
      long = length-set keep i true ∙ P.long;
      singles = record {
        from = λ u e. elim (with_cases s v u e) [
          | inl d ↦ (i, omega arith, q ∙ ap single (sym d))
          | inr d ↦ let t = P.singles.from u d in (t.0, omega (arith, t.1), t.2)
        ];
        all = λ u t. elim (ℕ_discrete t.0 i) [
          | yes e ↦
              has-or s (single v) u
              ∙ or_right (has s u) (has (single v) u) (ap (λ (x : ℕ). has x u) (sym q ∙ ap (at rows) (sym e) ∙ t.2) ∙ has_same u)
          | no ne ↦ with_old s v u (P.singles.all u (t.0, omega (arith, t.1), t.2))
        ];
      };
      right = λ j u l e. elim (ℕ_discrete j i) [
        | yes d ↦ ap (marked (set keep i true)) d ∙ mark_same keep i room ∙ sym (first_yes rows i h spared) ∙ ap (marked (firsts rows)) (sym d)
        | no ne ↦ get_or-set_other keep i j true false ne ∙ P.right j u (omega arith) e
      ];
      only = λ j t. elim (mark_cases keep i j t) [
        | inl d ↦ (v, omega arith, ap (at rows) d ∙ q)
        | inr m ↦ let o = P.only j m in (o.0, omega (arith, o.1), o.2)
      ];
    })
      where
        room : i < length keep
        room = omega (arith, P.long)

        spared : (j : ℕ) → j < length rows → Strikes rows j i → ⊥
        spared j l (inside, earlier) =
            let same : at rows j ≡ single v = within-single (at rows j) v (full j l) (subst (λ (x : ℕ). subset (at rows j) x ≡ true) q inside) in
            apart (at rows i) s z v (ap (λ (x : ℕ). has x v) q ∙ has_same v) (P.singles.all v (j, earlier (same ∙ sym q), same))

-- ---- all rows

module _ {rows : List ℕ} {keep : List Bool} {s : ℕ} (P : Passed rows keep (length rows) s) where
  -- a row that has a value of s, and other values, is marked neither here nor by the first step
  common_right : (j : ℕ) → j < length rows → bit_and (at rows j) s ≢ zero → marked keep j ≡ marked (firsts rows) j
  common_right j l ne = elim (ℕ_discrete (at rows j) (single v)) [
    | yes e ↦ P.right j v l e
    | no more ↦ unmarked more ∙ sym (first_no rows j l m.0 m.1 (strikes more))
  ]
    where
      t : (v : ℕ) × (has (at rows j) v ≡ true) × (has s v ≡ true)
      t = common (at rows j) s ne

      v : ℕ
      v = t.0

      m : Alone rows (length rows) t.0
      m = P.singles.from t.0 t.2

      unmarked : at rows j ≢ single t.0 → marked keep j ≡ false
      unmarked more = is_false (marked keep j) (λ e.
          let o = P.only j e in
          more (o.2 ∙ ap single (single_only o.0 t.0 (ap (λ (x : ℕ). has x t.0) (sym o.2) ∙ t.1))))

      strikes : at rows j ≢ single t.0 → Strikes rows m.0 j
      strikes more = (
        subst (λ (x : ℕ). subset x (at rows j) ≡ true) (sym m.2)
            (has-subset (single t.0) (at rows j) (λ u h. subst (λ (x : ℕ). has (at rows j) x ≡ true) (single_only t.0 u h) t.1)),
        λ e. absurd (more (sym e ∙ m.2)),
      )

  pub pass_done : Marks rows keep zero zero
  pass_done = record {
    long = P.long;
    right = λ j l judged. elim (ℕ_discrete (bit_and (at rows j) s) zero) [
      | no ne ↦ common_right j l ne
      | yes z ↦ let clear = apart_clear rows s P.singles (at rows j) z in elim (repeats? rows j) [
        | inr new ↦ absurd (nothing j (judged (record { clear = clear; new = new })))
        | inl r ↦
            is_false (marked keep j) (several j l clear)
            ∙ sym (first_no rows j l r.0 (omega (arith, r.1)) (equal_strikes rows r.0 j r.2 (omega (arith, r.1))))
      ]
    ];
    only = λ j l c t. absurd (several j l c.clear t);
  }
    where
      -- a clear row has several values
      several : (j : ℕ) → j < length rows → Clear rows (at rows j) → marked keep j ≡ true → ⊥
      several j l clear t = let o = P.only j t in clear o.0 (ap (λ (x : ℕ). has x o.0) o.2 ∙ has_same o.0) (j, l, o.2)

      nothing : (j : ℕ) → Before rows zero zero j → ⊥
      nothing j (inl d) = not-suc-le-zero d
      nothing j (inr d) = not-suc-le-zero d.1
