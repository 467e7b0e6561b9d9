-- A search goes through the values that have no row: those that are not left to ask have asked every row that holds them. Assumes nothing.
use Prim.Native.Nat.{ℕ, zero, ◌<◌}
use mathlib.Core.Path.{◌≡◌, refl, sym, ap, ◌∙◌, subst}
use mathlib.Core.Logic.{◌⊎◌, inl, inr}
use mathlib.Core.Bool.{Bool, true, false}
use mathlib.Core.List.{List}
use borrow.Author.Tests.{eqb-true}
use Rattle.sets.specs.Sets.{has, single, minus}
use Rattle.sets.specs.Rows.{width}
use Rattle.sets.proofs.Bools.{true_or_false, not_both}
use Rattle.sets.proofs.Values.{has-empty, has-single, minus_in, minus_out}
use Rattle.theory.specs.Pairings.{at}
use Rattle.theory.specs.Code.Search.{Heard}
use Rattle.pairing.specs.Code.Asking.{Inside, Searches, Asks, Grown, Taken, Stuck, OfValue, Failed}

pub record Round (free : ℕ) (rows p p' : List ℕ) (asked' left : ℕ) : Type 0 where
  pub some : Inside left free
  pub stuck : Stuck rows p zero p' asked'
  pub done : (v : ℕ) → has free v ≡ true → (has left v ≡ true) ⊎ Heard width rows (has asked') v

pub round_start : (free : ℕ) (rows p : List ℕ) (asked : ℕ) → asked ≡ zero → Round free rows p p asked free
round_start free rows p asked none = record {
  some = λ v t. t;
  stuck = record { still = refl; closed = λ i t n. absurd (not_both (ap (λ (x : ℕ). has x i) (sym none) ∙ t) n) };
  done = λ v t. inl t;
}

module _ {free : ℕ} {rows p p' : List ℕ} {asked' left : ℕ} (R : Round free rows p p' asked' left) where
  -- no value is left to ask
  pub round_end : left ≡ zero → Failed free rows p p' asked'
  round_end z = record {
    still = R.stuck.still;
    closed = λ i t. R.stuck.closed i t (has-empty i);
    heard = λ v t. elim (R.done v t) [ inl l ↦ absurd (not_both l (ap (λ (x : ℕ). has x v) z ∙ has-empty v)) | inr h ↦ h ];
  }

  -- v is next
  module _ {v : ℕ} (next : (v < width) × (has left v ≡ true)) where
    pub round_asks : {columns : List ℕ} {heavy : ℕ} → Searches free rows columns heavy p → Asks v rows columns heavy p'
    round_asks {columns} {heavy} S =
        subst (Asks v rows columns heavy) (sym R.stuck.still)
        (record { small = next.0; few = S.few; index = S.index; pairing = S.pairing; new = S.new v (R.some v next.1) })

    module _ {r : Bool} {p'' : List ℕ} {asked'' : ℕ} (O : OfValue r v rows p' asked' p'' asked'') where
      -- v has got a row
      pub round_found : r ≡ true → (v < width) × (has free v ≡ true) × Grown rows v p p''
      round_found t = (next.0, R.some v next.1, subst (λ (l : List ℕ). Grown rows v l p'') R.stuck.still (O.found t))

      -- v has not
      pub round_again : r ≡ false → Round free rows p p'' asked'' (minus left (single v))
      round_again f = record {
        some = λ u t. R.some u (minus_out left (single v) u t).0;
        stuck = record { still = (O.stuck f).still ∙ R.stuck.still; closed = closed };
        done = λ u t. elim (R.done u t) [
          | inr h ↦ inr (λ i inn. O.more i (h i inn))
          | inl l ↦ elim (true_or_false (has (single v) u)) [
            | inl e ↦ inr (subst (Heard width rows (has asked'')) (eqb-true v u (sym (has-single v u) ∙ e)) (O.heard f))
            | inr n ↦ inl (minus_in left (single v) u l n)
          ]
        ];
      }
        where
          closed : (i : ℕ) → has asked'' i ≡ true → has zero i ≡ false → Taken rows p asked'' i
          closed i t n = elim (true_or_false (has asked' i)) [
            | inl a ↦ let k = R.stuck.closed i a n in (k.0, k.1, λ j inn. O.more j (k.2 j inn))
            | inr a ↦ let k = (O.stuck f).closed i t a in (k.0, ap (λ (l : List ℕ). at l i) (sym R.stuck.still) ∙ k.1, k.2)
          ]
