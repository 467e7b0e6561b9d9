-- What each step of the search shows: a free row takes the value; a taken row asks its present value;
-- a value goes through the rows that hold it. Assumes nothing.
use Prim.Native.Nat.{ℕ, zero, suc, ◌+◌, ◌≤◌, ◌<◌}
use mathlib.Core.Path.{◌≡◌, refl, sym, ap, ◌∙◌, subst}
use mathlib.Core.Logic.{◌≢◌, ◌⊎◌, inl, inr}
use mathlib.Core.Bool.{Bool, true, false, cond, true≢false, false≢true}
use mathlib.Core.List.{List}
use native.Mathlib.Nat.{not-suc-le-zero, suc_inj}
use native.Mathlib.Numerals.{add-one}
use native.Mathlib.Decide.{ℕ_discrete}
use native.Mathlib.Omega.{arith}
use lib.Bits.{bit_or}
use lib.ListN.{length, set}
use lib.Seq.{set-set, set-get_or}
use borrow.Author.Tests.{eqb-true}
use Rattle.sets.specs.Sets.{has, single, minus}
use Rattle.sets.specs.Rows.{width}
use Rattle.sets.proofs.Bools.{true_or_false, not_both, is_false}
use Rattle.sets.proofs.Values.{with_old, with_new, with_cases, minus_in, minus_out, minus_none, has-single}
use Rattle.sets.proofs.Subsets.{without_less}
use Rattle.theory.specs.Pairings.{at, Seated, Pairing}
use Rattle.theory.proofs.Places.{not_mate, at_same, at_other, stored, size_more, size_same}
use Rattle.theory.proofs.PairingSteps.{pairing_put}
use Rattle.pairing.specs.Code.Asking.{Inside, unasked, Index, Shut, Asks, Grown, Taken, Stuck, OfValue, OfRow}

-- ---- the number that falls

unasked_less_or_same : (n a b : ℕ) → Inside a b → unasked n b ≤ unasked n a
unfolding unasked
unasked_less_or_same zero a b sub = omega arith
unasked_less_or_same (suc n) a b sub = go (has a n) (has b n) (sub n) (unasked_less_or_same n a b sub)
  where
    go : (x y : Bool) → (x ≡ true → y ≡ true) → unasked n b ≤ unasked n a
        → cond y (unasked n b) (suc (unasked n b)) ≤ cond x (unasked n a) (suc (unasked n a))
    go true true f h = h
    go true false f h = absurd (false≢true (f refl))
    go false true f h = omega arith
    go false false f h = omega arith

-- one row more is asked
pub unasked_falls : (n a b i : ℕ) → i < n → has a i ≡ false → has b i ≡ true → Inside a b → unasked n b < unasked n a
unfolding unasked
unasked_falls zero a b i h f t sub = absurd (not-suc-le-zero h)
unasked_falls (suc n) a b i h f t sub = elim (ℕ_discrete i n) [
  | yes e ↦ here (has a n) (has b n) (ap (has a) (sym e) ∙ f) (ap (has b) (sym e) ∙ t) (unasked_less_or_same n a b sub)
  | no ne ↦ rest (has a n) (has b n) (sub n) (unasked_falls n a b i (omega arith) f t sub)
]
  where
    here : (x y : Bool) → x ≡ false → y ≡ true → unasked n b ≤ unasked n a
        → cond y (unasked n b) (suc (unasked n b)) < cond x (unasked n a) (suc (unasked n a))
    here true y p q l = absurd (true≢false p)
    here false true p q l = omega arith
    here false false p q l = absurd (false≢true q)

    rest : (x y : Bool) → (x ≡ true → y ≡ true) → unasked n b < unasked n a
        → cond y (unasked n b) (suc (unasked n b)) < cond x (unasked n a) (suc (unasked n a))
    rest true true g l = l
    rest true false g l = absurd (false≢true (g refl))
    rest false true g l = omega arith
    rest false false g l = omega arith

-- ---- row i is asked to take v

module _ {v : ℕ} {rows columns : List ℕ} {heavy : ℕ} {p : List ℕ} (A : Asks v rows columns heavy p) (i : ℕ) (h : i < length rows)
    (holds : has (at rows i) v ≡ true) where
  P : Pairing width rows p
  P = A.pairing

  hp : i < length p
  hp = omega (arith, h, P.fits)

  -- v sits at row i
  p₁ : List ℕ
  p₁ = set p i (suc v)

  P₁ : Pairing width rows p₁
  unfolding p₁
  P₁ = pairing_put width rows p i v P hp (A.small, holds) A.new

  seated₁ : Seated p₁ v
  unfolding p₁
  seated₁ = (i, at_same p i (suc v) hp)

  -- the other values that had a row have it still
  stays : (j u : ℕ) → j ≢ i → at p j ≡ suc u → Seated p₁ u
  unfolding p₁
  stays j u ne e = (j, at_other p i (suc v) j ne ∙ e)

  came : (u : ℕ) → Seated p₁ u → (u ≡ v) ⊎ ((j : ℕ) × (j ≢ i) × (at p j ≡ suc u))
  unfolding p₁
  came u (j, e) = elim (stored p i (suc v) j hp) [
    | inl s ↦ inl (suc_inj (sym e ∙ s.1))
    | inr s ↦ inr (j, s.0, sym s.1 ∙ e)
  ]

  -- row i had no mate, and takes v
  pub row_free : at p i ≡ zero → Grown rows v p (set p i (v + 1))
  unfolding p₁
  row_free z = subst (λ (x : ℕ). Grown rows v p (set p i x)) (sym (add-one v)) (record {
    pairing = P₁;
    larger = size_more p i v hp z;
    seated = seated₁;
    there = λ u s. stays s.0 u (λ same. not_mate (ap (at p) same ∙ z) s.1) s.1;
    from = λ u s. elim (came u s) [ inl e ↦ inl e | inr t ↦ inr (t.0, t.2) ];
    shut = λ dead S n u e.
        let k = S u e in
        (k.0, at_other p i (suc v) k.0 (λ same. not_mate (ap (at p) same ∙ z) k.1) ∙ k.1, k.2);
  })

  -- row i's mate is w, which is without a row now
  module _ {w : ℕ} (mate : at p i ≡ suc w) where
    not_v : w ≢ v
    not_v e = A.new (i, mate ∙ ap suc e)

    pub row_asks : Asks w rows columns heavy (set p i (v + 1))
    unfolding p₁
    row_asks = subst (λ (x : ℕ). Asks w rows columns heavy (set p i x)) (sym (add-one v)) (record {
      small = (P.holds i w mate).0;
      few = A.few;
      index = A.index;
      pairing = P₁;
      new = λ s. elim (came w s) [ inl e ↦ not_v e | inr t ↦ t.1 (P.apart t.0 i w t.2 mate) ];
    })

    -- w has found another row
    moved : (p' : List ℕ) → Grown rows w p₁ p' → Grown rows v p p'
    unfolding p₁
    moved p' G = record {
      pairing = G.pairing;
      larger = G.larger ∙ ap suc (size_same p i w v mate);
      seated = G.there v seated₁;
      there = λ u s. elim (ℕ_discrete s.0 i) [
        | yes e ↦ let same : u ≡ w = suc_inj (sym s.1 ∙ ap (at p) e ∙ mate) in subst (Seated p') (sym same) G.seated
        | no ne ↦ G.there u (stays s.0 u ne s.1)
      ];
      from = λ u s. elim (G.from u s) [
        | inl e ↦ inr (i, mate ∙ ap suc (sym e))
        | inr s₁ ↦ elim (came u s₁) [ inl e ↦ inl e | inr t ↦ inr (t.0, t.2) ]
      ];
      shut = keep;
    }
      where
        -- w is not dead, since its row holds v
        alive : (dead : ℕ) → Shut rows p dead → has dead v ≡ false → has dead w ≡ true → ⊥
        alive dead S n e =
            let k = S w e in
            let same : k.0 ≡ i = P.apart k.0 i w k.1 mate in
            not_both (k.2 v (ap (λ (j : ℕ). has (at rows j) v) same ∙ holds)) n

        keep : (dead : ℕ) → Shut rows p dead → has dead v ≡ false → Shut rows p' dead
        keep dead S n = elim (true_or_false (has dead w)) [
          | inl e ↦ absurd (alive dead S n e)
          | inr f ↦ G.shut dead (λ u e.
              let k = S u e in
              let other : k.0 ≢ i = λ same. not_both (ap (has dead) (suc_inj (sym mate ∙ ap (at p) (sym same) ∙ k.1)) ∙ e) f in
              (k.0, at_other p i (suc v) k.0 other ∙ k.1, k.2)) f
        ]

    pub row_moved : {r : Bool} {asked : ℕ} {p' : List ℕ} {asked' : ℕ} → OfValue r w rows (set p i (v + 1)) asked p' asked' → r ≡ true
        → OfRow true i v rows p asked p' asked'
    unfolding p₁
    row_moved {p' = p'} O t = record {
      more = O.more;
      found = λ _. moved p' (subst (λ (x : ℕ). Grown rows w (set p i x) p') (add-one v) (O.found t));
      stuck = λ f. absurd (true≢false f);
      taken = λ f. absurd (true≢false f);
    }

    -- w has found none, and stays
    pub row_stays : {r : Bool} {asked : ℕ} {p' : List ℕ} {asked' : ℕ} → has asked i ≡ true
        → OfValue r w rows (set p i (v + 1)) asked p' asked' → r ≡ false
        → OfRow false i v rows p asked (set p' i (at p i)) asked'
    row_stays {asked = asked} {p' = p'} {asked' = asked'} a O f = record {
      more = O.more;
      found = λ t. absurd (false≢true t);
      stuck = λ _. record { still = back; closed = λ j t n. close j t n };
      taken = λ _. (w, mate, O.heard f);
    }
      where
        back : set p' i (at p i) ≡ p
        back = ap (λ (l : List ℕ). set l i (at p i)) (O.stuck f).still ∙ set-set p i (v + 1) (at p i) ∙ set-get_or p i zero

        close : (j : ℕ) → has asked' j ≡ true → has asked j ≡ false → Taken rows p asked' j
        close j t n =
            let k = (O.stuck f).closed j t n in
            (k.0, sym (at_other p i (v + 1) j (λ same. not_both (ap (has asked) same ∙ a) n)) ∙ k.1, k.2)

  pub row_takes : (asked : ℕ) → at p i ≡ zero → OfRow true i v rows p asked (set p i (v + 1)) asked
  row_takes asked z = record { more = λ j t. t; found = λ _. row_free z; stuck = λ f. absurd (true≢false f); taken = λ f. absurd (true≢false f) }

-- ---- v goes through the rows that hold it

-- The rows that hold v are asked, or in `left`; the pairing is as it was, and the rows asked in between are taken.
pub record Progress (v : ℕ) (rows p : List ℕ) (asked : ℕ) (p' : List ℕ) (asked' left : ℕ) : Type 0 where
  pub more : Inside asked asked'
  pub stuck : Stuck rows p asked p' asked'
  pub remain : (i : ℕ) → has (at rows i) v ≡ true → (has asked' i ≡ true) ⊎ (has left i ≡ true)
  pub inside : (i : ℕ) → has left i ≡ true → i < length rows

module _ {v : ℕ} {rows p : List ℕ} {asked : ℕ} where
  pub turn_start : {columns : List ℕ} {heavy : ℕ} → Index rows columns heavy → Progress v rows p asked p asked (bit_or (at columns v) heavy)
  turn_start X = record {
    more = λ i t. t;
    stuck = record { still = refl; closed = λ i t n. absurd (not_both t n) };
    remain = λ i t. inr (X.complete i v t);
    inside = λ i t. X.inside i v t;
  }

  module _ {p' : List ℕ} {asked' left : ℕ} (T : Progress v rows p asked p' asked' left) where
    -- no row is left to ask
    pub turn_end : minus left asked' ≡ zero → OfValue false v rows p asked p' asked'
    turn_end none = record {
      more = T.more;
      found = λ t. absurd (false≢true t);
      stuck = λ _. T.stuck;
      heard = λ _ i inn. elim (T.remain i inn.1) [ inl t ↦ t | inr l ↦ minus_none left asked' none i l ];
    }

    -- row i is next, and is not asked yet
    module _ (i : ℕ) (next : has (minus left asked') i ≡ true) where
      pub turn_row : i < length rows
      turn_row = T.inside i (minus_out left asked' i next).0

      unasked_yet : has asked' i ≡ false
      unasked_yet = (minus_out left asked' i next).1

      pub turn_less : minus left (single i) < left
      turn_less = without_less left i (minus_out left asked' i next).0

      -- the number that falls
      pub turn_falls : length rows ≤ width → unasked width (bit_or asked' (single i)) < unasked width asked
      turn_falls few =
          unasked_falls width asked (bit_or asked' (single i)) i (omega (arith, turn_row))
          (is_false (has asked i) (λ t. not_both (T.more i t) unasked_yet))
          (with_new asked' i)
          (λ j t. with_old asked' i j (T.more j t))

      left_or_next : (j : ℕ) → has left j ≡ true → (j ≡ i) ⊎ (has (minus left (single i)) j ≡ true)
      left_or_next j l = elim (true_or_false (has (single i) j)) [
        | inl e ↦ inl (sym (eqb-true i j (sym (has-single i j) ∙ e)))
        | inr f ↦ inr (minus_in left (single i) j l f)
      ]

      -- row i does not hold v
      pub turn_pass : has (at rows i) v ≡ false → Progress v rows p asked p' asked' (minus left (single i))
      turn_pass n = record {
        more = T.more;
        stuck = T.stuck;
        remain = λ j t. elim (T.remain j t) [
          | inl a ↦ inl a
          | inr l ↦ elim (left_or_next j l) [ inl e ↦ absurd (not_both t (ap (λ (k : ℕ). has (at rows k) v) e ∙ n)) | inr k ↦ inr k ]
        ];
        inside = λ j l. T.inside j (minus_out left (single i) j l).0;
      }

      module _ {r : Bool} {p'' : List ℕ} {asked'' : ℕ} (O : OfRow r i v rows p' (bit_or asked' (single i)) p'' asked'') where
        -- row i has taken v
        pub turn_found : r ≡ true → OfValue true v rows p asked p'' asked''
        turn_found t = record {
          more = λ j e. O.more j (with_old asked' i j (T.more j e));
          found = λ _. subst (λ (l : List ℕ). Grown rows v l p'') T.stuck.still (O.found t);
          stuck = λ f. absurd (true≢false f);
          heard = λ f. absurd (true≢false f);
        }

        -- row i has not
        pub turn_again : r ≡ false → Progress v rows p asked p'' asked'' (minus left (single i))
        turn_again f = record {
          more = λ j e. later j (T.more j e);
          stuck = record { still = (O.stuck f).still ∙ T.stuck.still; closed = closed };
          remain = λ j t. elim (T.remain j t) [
            | inl a ↦ inl (later j a)
            | inr l ↦ elim (left_or_next j l) [ inl e ↦ inl (ap (has asked'') e ∙ O.more i (with_new asked' i)) | inr k ↦ inr k ]
          ];
          inside = λ j l. T.inside j (minus_out left (single i) j l).0;
        }
          where
            later : (j : ℕ) → has asked' j ≡ true → has asked'' j ≡ true
            later j a = O.more j (with_old asked' i j a)

            here : (j : ℕ) → Taken rows p' asked'' j → Taken rows p asked'' j
            here j t = (t.0, ap (λ (l : List ℕ). at l j) (sym T.stuck.still) ∙ t.1, t.2)

            closed : (j : ℕ) → has asked'' j ≡ true → has asked j ≡ false → Taken rows p asked'' j
            closed j t n = elim (true_or_false (has (bit_or asked' (single i)) j)) [
              | inr new ↦ here j ((O.stuck f).closed j t new)
              | inl old ↦ elim (with_cases asked' i j old) [
                | inl e ↦ subst (Taken rows p asked'') (sym e) (here i (O.taken f))
                | inr a ↦ let k = T.stuck.closed j a n in (k.0, k.1, λ m inn. later m (k.2 m inn))
              ]
            ]
