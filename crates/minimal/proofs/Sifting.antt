-- The candidates are judged by how many values they have, few values first, and in view order among equals:
-- what could strike a row out is judged before. Assumes nothing.
use Prim.Native.Nat.{ℕ, zero, ◌+◌, ◌-◌, ◌≤◌, ◌<◌}
use mathlib.Core.Path.{◌≡◌, refl, sym, ap, ◌∙◌, subst}
use mathlib.Core.Logic.{◌≢◌, ◌⊎◌, inl, inr}
use mathlib.Core.Bool.{Bool, true, false}
use mathlib.Core.List.{List}
use native.Mathlib.Nat.{not-suc-le-zero, lt_irrefl}
use native.Mathlib.Decide.{ℕ_discrete, dec_lt}
use native.Mathlib.Omega.{arith}
use lib.Count.{ones, count_trailing_zeros}
use lib.ListN.{length, set, length-set}
use lib.Seq.{ext_get_or, get_or-set_other}
use Rattle.sets.specs.Sets.{has, single, subset, proper, minus}
use Rattle.sets.specs.Rows.{width}
use Rattle.sets.proofs.Bools.{true_or_false, not_both, is_false}
use Rattle.sets.proofs.Extremes.{lowest_least}
use Rattle.sets.proofs.Subsets.{subset_refl, subset_trans, subset_same}
use Rattle.sets.proofs.Values.{has-empty, has_same, minus_in, minus_out}
use Rattle.theory.specs.Pairings.{at}
use Rattle.theory.specs.Kept.{marked, pick, firsts}
use Rattle.theory.proofs.Places.{at_same, at_other}
use Rattle.theory.proofs.Marks.{mark_same}
use Rattle.theory.proofs.MinimalRows.{length-firsts}
use Rattle.minimal.specs.Code.Marking.{NoneEmpty, Candidate, Before, Marks, SomeWithin, NoneWithin, Sieve, InChain, FirstFrom, Chains, Sizes}
use Rattle.minimal.proofs.Apart.{single_only, subset_clear, leader}
use Rattle.minimal.proofs.Counts.{proper_fewer, some_ones, marked-most, marked_more}
use Rattle.minimal.proofs.FirstRows.{Strikes, first_yes, first_no}

-- ---- one row of a chain

before_more : (rows : List ℕ) (k i j : ℕ) → Before rows k i j → Before rows k (i + 1) j
before_more rows k i j (inl h) = inl h
before_more rows k i j (inr h) = inr (h.0, omega (arith, h.1))

before_less : (rows : List ℕ) (k i j : ℕ) → j ≢ i → Before rows k (i + 1) j → Before rows k i j
before_less rows k i j ne (inl h) = inl h
before_less rows k i j ne (inr h) = inr (h.0, omega (arith, h.1))

-- an equal row that stands earlier is judged before
before_same : (rows : List ℕ) (k i f j : ℕ) → f ≤ j → at rows f ≡ at rows j → Before rows k i j → Before rows k i f
before_same rows k i f j h e (inl l) = let q : ones (at rows f) ≡ ones (at rows j) = ap ones e in inl (omega arith)
before_same rows k i f j h e (inr l) = inr (ap ones e ∙ l.0, omega (arith, l.1))

module _ {rows : List ℕ} {keep : List Bool} {mins : List ℕ}
    {found k i : ℕ} (S : Sieve rows keep mins found k i) (h : i < length rows) (C : InChain rows k i) where
  here : Before rows k (i + 1) i
  here = inr (C.1, omega arith)

  not-before : Before rows k i i → ⊥
  not-before (inl l) = omega (arith, C.1)
  not-before (inr l) = lt_irrefl i l.1

  unmarked : marked keep i ≡ false
  unmarked = is_false (marked keep i) (λ t. not-before (S.marks.only i h C.0 t))

  one_more : length (pick (set keep i true) rows) ≡ 1 + length (pick keep rows)
  one_more = let l : i < length keep = omega (arith, S.marks.long) in omega (arith, marked_more keep rows i l h unmarked)

  sieve_room : found < length rows
  sieve_room = omega (arith, S.room, one_more, marked-most (set keep i true) rows)

  -- what strikes row i out is judged
  strikes_before : (j : ℕ) → Strikes rows j i → Before rows k i j
  strikes_before j (inside, earlier) = elim (true_or_false (proper (at rows j) (at rows i))) [
    | inl p ↦ inl (omega (arith, proper_fewer (at rows j) (at rows i) p, C.1))
    | inr p ↦ let same = subset_same (at rows j) (at rows i) inside p in inr (ap ones same ∙ C.1, earlier same)
  ]

  -- and a judged row that is a subset strikes it out
  before_strikes : (j : ℕ) → subset (at rows j) (at rows i) ≡ true → Before rows k i j → Strikes rows j i
  before_strikes j inside (inl l) = (inside, λ same. let q : ones (at rows j) ≡ ones (at rows i) = ap ones same in absurd (omega (arith, C.1)))
  before_strikes j inside (inr l) = (inside, λ _. l.1)

  -- row i is judged
  marks_more : (keep' : List Bool) → length keep' ≡ length rows → marked keep' i ≡ marked (firsts rows) i
      → ((j : ℕ) → j ≢ i → marked keep' j ≡ marked keep j) → Marks rows keep' k (i + 1)
  marks_more keep' l new old = record {
    long = l;
    right = λ j a judged. elim (ℕ_discrete j i) [
      | yes e ↦ ap (marked keep') e ∙ new ∙ ap (marked (firsts rows)) (sym e)
      | no ne ↦ old j ne ∙ S.marks.right j a (λ c. before_less rows k i j ne (judged c))
    ];
    only = λ j a c t. elim (ℕ_discrete j i) [
      | yes e ↦ subst (Before rows k (i + 1)) (sym e) here
      | no ne ↦ before_more rows k i j (S.marks.only j a c (sym (old j ne) ∙ t))
    ];
  }

  -- a minimal row found before is a subset of it
  sieve_miss : SomeWithin mins found (at rows i) → Sieve rows keep mins found k (i + 1)
  sieve_miss some = record {
    marks = marks_more keep S.marks.long (unmarked ∙ sym struck) (λ j ne. refl);
    room = S.room;
    from = λ m l. let t = S.from m l in (t.0, t.1, before_more rows k i t.0 t.2, t.3);
    cover = λ j l c b. elim (ℕ_discrete j i) [
      | yes e ↦ subst (λ (x : ℕ). SomeWithin mins found (at rows x)) (sym e) some
      | no ne ↦ S.cover j l c (before_less rows k i j ne b)
    ];
  }
    where
      struck : marked (firsts rows) i ≡ false
      struck =
          let t = S.from some.0 some.1 in
          first_no rows i h t.0 t.1 (before_strikes t.0 (subst (λ (x : ℕ). subset x (at rows i) ≡ true) t.3 some.2) t.2)

  -- none is
  sieve_hit : NoneWithin mins found (at rows i) → found < length mins
      → Sieve rows (set keep i true) (set mins found (at rows i)) (found + 1) k (i + 1)
  sieve_hit none l = record {
    marks =
        marks_more (set keep i true) (length-set keep i true ∙ S.marks.long)
        (mark_same keep i (omega (arith, S.marks.long)) ∙ sym (first_yes rows i h spared)) (λ j ne. get_or-set_other keep i j true false ne);
    room = omega (arith, S.room, one_more);
    from = λ m a. elim (ℕ_discrete m found) [
      | yes e ↦ (i, h, here, ap (at (set mins found (at rows i))) e ∙ at_same mins found (at rows i) l)
      | no ne ↦ let t = S.from m (omega arith) in (t.0, t.1, before_more rows k i t.0 t.2, at_other mins found (at rows i) m ne ∙ t.3)
    ];
    cover = λ j a c b. elim (ℕ_discrete j i) [
      | yes e ↦
          let here = ap (at rows) e ∙ sym (at_same mins found (at rows i) l) in
          (found, omega arith, subst (λ (x : ℕ). subset x (at rows j) ≡ true) here (subset_refl (at rows j)))
      | no ne ↦ older (at rows j) (S.cover j a c (before_less rows k i j ne b))
    ];
  }
    where
      older : (x : ℕ) → SomeWithin mins found x → SomeWithin (set mins found (at rows i)) (found + 1) x
      older x (m, a, e) =
          let other = at_other mins found (at rows i) m (λ q. lt_irrefl found (subst (λ (y : ℕ). y < found) q a)) in
          (m, omega arith, subst (λ (y : ℕ). subset y x ≡ true) (sym other) e)

      spared : (j : ℕ) → j < length rows → Strikes rows j i → ⊥
      spared j a s =
          let f = leader rows j (subset_clear rows (at rows j) (at rows i) s.0 C.0.clear) in
          let t = S.cover f.0 (omega (arith, f.1)) f.3 (before_same rows k i f.0 j f.1 f.2 (strikes_before j s)) in
          let inside = subst (λ (x : ℕ). subset (at mins t.0) x ≡ true) f.2 t.2 in
          not_both (subset_trans (at mins t.0) (at rows j) (at rows i) inside s.0) (none t.0 t.1)

-- ---- from a chain's row to the next, and from a chain to the next

module _ (rows : List ℕ) (keep : List Bool) (k i k' i' : ℕ)
    (to : (j : ℕ) → Before rows k i j → Before rows k' i' j)
    (back : (j : ℕ) → j < length rows → Candidate rows j → Before rows k' i' j → Before rows k i j) where
  -- the same rows are judged
  marks-moved : Marks rows keep k i → Marks rows keep k' i'
  marks-moved M = record { long = M.long; right = λ j l judged. M.right j l (λ c. back j l c (judged c)); only = λ j l c t. to j (M.only j l c t) }

  sieve_moved : (mins : List ℕ) (found : ℕ) → Sieve rows keep mins found k i → Sieve rows keep mins found k' i'
  sieve_moved mins found S = record {
    marks = marks-moved S.marks;
    room = S.room;
    from = λ m l. let t = S.from m l in (t.0, t.1, to t.0 t.2, t.3);
    cover = λ j l c b. S.cover j l c (back j l c b);
  }

module _ {rows : List ℕ} {keep : List Bool} {mins : List ℕ} {found k : ℕ} where
  sieve_jump : {i x : ℕ} → FirstFrom rows k i x → Sieve rows keep mins found k i → Sieve rows keep mins found k x
  sieve_jump {i} {x} F = sieve_moved rows keep k i k x to back mins found
    where
      to : (j : ℕ) → Before rows k i j → Before rows k x j
      to j (inl h) = inl h
      to j (inr h) = inr (h.0, omega (arith, h.1, F.from))

      back : (j : ℕ) → j < length rows → Candidate rows j → Before rows k x j → Before rows k i j
      back j l c (inl h) = inl h
      back j l c (inr h) = elim (dec_lt j i) [
        | yes b ↦ inr (h.0, b)
        | no n ↦ absurd (F.gap j (omega arith) h.1 l (c, h.0))
      ]

  pub sieve_next : {i : ℕ} → length rows ≤ i → Sieve rows keep mins found k i → Sieve rows keep mins found (k + 1) zero
  sieve_next {i} past = sieve_moved rows keep k i (k + 1) zero to back mins found
    where
      to : (j : ℕ) → Before rows k i j → Before rows (k + 1) zero j
      to j (inl h) = inl (omega arith)
      to j (inr h) = inl (omega (arith, h.0))

      back : (j : ℕ) → j < length rows → Candidate rows j → Before rows (k + 1) zero j → Before rows k i j
      back j l c (inl h) = elim (ℕ_discrete (ones (at rows j)) k) [ yes e ↦ inr (e, omega arith) | no ne ↦ inl (omega arith) ]
      back j l c (inr h) = absurd (not-suc-le-zero h.1)

-- ---- along a chain

-- the rows of chain k before place i are judged, and row i, if the view has it, is in the chain
pub record Walk (rows : List ℕ) (keep : List Bool) (mins : List ℕ) (found k i : ℕ) : Type 0 where
  pub sieve : Sieve rows keep mins found k i
  pub hit : i < length rows → InChain rows k i

walk_from : {rows : List ℕ} {keep : List Bool} {mins : List ℕ} {found k i x : ℕ} → FirstFrom rows k i x → Sieve rows keep mins found k i
    → Walk rows keep mins found k x
walk_from F S = record { sieve = sieve_jump F S; hit = F.hit }

pub walk_start : {rows next head : List ℕ} {keep : List Bool} {mins : List ℕ} {found k : ℕ} → Chains rows next head zero → k ≤ width
    → Sieve rows keep mins found k zero → Walk rows keep mins found k (at head k)
walk_start {k = k} C h S = walk_from (C.heads k h) S

module _ {rows next head : List ℕ} (C : Chains rows next head zero) {keep : List Bool} {mins : List ℕ}
    {found k i : ℕ} (W : Walk rows keep mins found k i) (h : i < length rows) where
  link : FirstFrom rows k (i + 1) (at next i)
  link = let c = W.hit h in subst (λ (n : ℕ). FirstFrom rows n (i + 1) (at next i)) c.1 (C.links i (omega arith) h c.0)

  pub walk_room : found < length rows
  walk_room = sieve_room W.sieve h (W.hit h)

  pub walk_miss : SomeWithin mins found (at rows i) → Walk rows keep mins found k (at next i)
  walk_miss some = walk_from link (sieve_miss W.sieve h (W.hit h) some)

  pub walk_hit : NoneWithin mins found (at rows i) → found < length mins → {mins' : List ℕ} → mins' ≡ set mins found (at rows i)
      → Walk rows (set keep i true) mins' (found + 1) k (at next i)
  walk_hit none l e =
      subst (λ (m : List ℕ). Walk rows (set keep i true) m (found + 1) k (at next i)) (sym e)
      (walk_from link (sieve_hit W.sieve h (W.hit h) none l))

-- ---- from level to level

-- the candidates of fewer than k values are judged, and `left` has the sizes of the others
pub record Levels (rows : List ℕ) (keep : List Bool) (mins : List ℕ) (found left : ℕ) : Type 0 where
  pub k : ℕ
  pub sieve : Sieve rows keep mins found k zero
  pub rest : (j : ℕ) → j < length rows → Candidate rows j → (ones (at rows j) < k) ⊎ (has left (ones (at rows j) - 1) ≡ true)
  pub far : (v : ℕ) → has left v ≡ true → k ≤ v + 1

pub levels_start : {rows : List ℕ} {keep : List Bool} {sizes : ℕ} (mins : List ℕ) → Sizes rows zero sizes → Marks rows keep zero zero
    → Levels rows keep mins zero sizes
levels_start {rows} mins Z M = record {
  k = zero;
  sieve = record { marks = M; room = omega arith; from = λ m l. absurd (not-suc-le-zero l); cover = λ j l c b. absurd (nothing j b) };
  rest = λ j l c. inr (Z.all j (omega arith) l c);
  far = λ v h. omega arith;
}
  where
    nothing : (j : ℕ) → Before rows zero zero j → ⊥
    nothing j (inl h) = not-suc-le-zero h
    nothing j (inr h) = not-suc-le-zero h.1

module _ {rows : List ℕ} {keep : List Bool} {mins : List ℕ} {found left : ℕ} (L : Levels rows keep mins found left) where
  pub levels_done : left ≡ zero → keep ≡ firsts rows
  levels_done z = ext_get_or false keep (firsts rows) (L.sieve.marks.long ∙ sym (length-firsts rows)) same
    where
      same : (j : ℕ) → j < length keep → marked keep j ≡ marked (firsts rows) j
      same j l =
          let n : j < length rows = omega (arith, L.sieve.marks.long) in
          let none = ap (λ (x : ℕ). has x (ones (at rows j) - 1)) z ∙ has-empty (ones (at rows j) - 1) in
          L.sieve.marks.right j n (λ c. elim (L.rest j n c) [ inl h ↦ inl h | inr h ↦ absurd (not_both h none) ])

  -- v is the lowest size left
  module _ (full : NoneEmpty rows) {v : ℕ} (is : v ≡ count_trailing_zeros width left) (lowest : has left v ≡ true) where
    least : (u : ℕ) → has left u ≡ true → v ≤ u
    least u h = omega (arith, is, lowest_least width left u h)

    -- its rows are next
    pub level_sieve : Sieve rows keep mins found (v + 1) zero
    level_sieve = sieve_moved rows keep L.k zero (v + 1) zero to back mins found L.sieve
      where
        to : (j : ℕ) → Before rows L.k zero j → Before rows (v + 1) zero j
        to j (inl h) = inl (omega (arith, h, L.far v lowest))
        to j (inr h) = absurd (not-suc-le-zero h.1)

        back : (j : ℕ) → j < length rows → Candidate rows j → Before rows (v + 1) zero j → Before rows L.k zero j
        back j l c (inr h) = absurd (not-suc-le-zero h.1)
        back j l c (inl h) = elim (L.rest j l c) [
          | inl b ↦ inl b
          | inr t ↦ absurd (omega (arith, h, least (ones (at rows j) - 1) t, some_ones (at rows j) (full j l)))
        ]

    -- and then judged
    pub level_judged : {keep' : List Bool} {mins' : List ℕ} {found' : ℕ} (rest : ℕ)
        → rest ≡ minus left (single v) → Sieve rows keep' mins' found' (v + 1 + 1) zero
        → Levels rows keep' mins' found' rest
    level_judged {keep'} {mins'} {found'} rest e S =
        subst (Levels rows keep' mins' found') (sym e) (record {
          k = v + 1 + 1;
          sieve = S;
          rest = λ j l c. elim (L.rest j l c) [
            | inl h ↦ inl (omega (arith, h, L.far v lowest))
            | inr h ↦ elim (true_or_false (has (single v) (ones (at rows j) - 1))) [
              | inl q ↦ inl (omega (arith, single_only v (ones (at rows j) - 1) q))
              | inr n ↦ inr (minus_in left (single v) (ones (at rows j) - 1) h n)
            ]
          ];
          far = λ u h. let t = minus_out left (single v) u h in elim (ℕ_discrete u v) [
            | yes q ↦ absurd (not_both (ap (has (single v)) q ∙ has_same v) t.1)
            | no other ↦ let l = least u t.0 in omega (arith, other, l)
          ];
        })
