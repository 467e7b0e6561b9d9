-- What a row more does to the seats: it gets a seat, or the values that no search reached are dead;
-- and a row of dead values makes no pairing larger. Assumes nothing.
use Prim.Native.Nat.{ℕ, zero, suc, ◌+◌, ◌≤◌, ◌<◌}
use mathlib.Core.Path.{◌≡◌, refl, sym, ap, ◌∙◌, subst}
use mathlib.Core.Logic.{◌⊎◌, inl, inr}
use mathlib.Core.Bool.{Bool, true, false, not, ◌&&◌}
use mathlib.Core.List.{List, [], ◌∷◌, ◌++◌}
use native.Mathlib.Nat.{suc_inj}
use native.Mathlib.Omega.{arith}
use lib.Bits.{bit_and, bit_or}
use lib.ListN.{length, set, length-append}
use lib.Seq.{set-append_seam}
use borrow.Author.Tests.{not-true}
use Rattle.std.specs.Prelude.{Option, Some, None}
use Rattle.sets.specs.declared.Row.{Row}
use Rattle.sets.specs.Sets.{has, single, minus}
use Rattle.sets.specs.Rows.{width, bits}
use Rattle.sets.proofs.Bools.{and_left, and_right, and_both, true_or_false, not_both, is_false}
use Rattle.sets.proofs.Values.{has-empty, has-and, has_same, minus_in, minus_out}
use Rattle.theory.specs.Pairings.{size, at, In, Seated, Largest}
use Rattle.theory.specs.Code.Search.{Heard}
use Rattle.theory.proofs.Places.{not_mate, past, seated?}
use Rattle.theory.proofs.Sizes.{size_by_d}
use Rattle.theory.proofs.FailedSearch.{failed_largest}
use Rattle.pairing.specs.declared.seats.Seating.{Seating}
use Rattle.pairing.specs.Code.Asking.{Inside, Index, Shut, Asks, Searches, Grown, Failed, OfSearch}
use Rattle.pairing.specs.Code.Seats.{seats, Unreached, Below, Bench, Reseated}
use Rattle.pairing.proofs.AskSteps.{row_free}
use Rattle.pairing.proofs.SeatColumns.{left_or_same}
use Rattle.pairing.proofs.Snoc.{at_open, size_open, seated_open, open_seated, full_mate, row_last, holds_cases, holds_before}
use Rattle.pairing.proofs.Snoc.{pairing_open, shut_open, index_open}

-- a mate that is not dead
alive_mate : ℕ → ℕ → Bool
alive_mate dead zero = false
alive_mate dead (suc w) = not (has dead w)

alive_in : (dead n w : ℕ) → n ≡ suc w → has dead w ≡ false → alive_mate dead n ≡ true
unfolding alive_mate
alive_in dead n w e f = ap (alive_mate dead) e ∙ ap not f

alive_out : (dead n : ℕ) → alive_mate dead n ≡ true → (w : ℕ) × (n ≡ suc w) × (has dead w ≡ false)
unfolding alive_mate
alive_out dead zero a = absurd (not_both a refl)
alive_out dead (suc w) a = (w, refl, not-true (has dead w) a)

module _ (s : Seating) (R columns p : List ℕ) (B : Bench s R columns p) where
  -- where a value is free there is a seat for a row more
  pub seat_left : (v : ℕ) → has (bits s.free) v ≡ true → length R < seats
  unfolding size
  seat_left v t = omega (arith, B.full, below)
    where
      single_place : (i j u : ℕ) → at (suc v ∷ p) i ≡ suc u → at (suc v ∷ p) j ≡ suc u → i ≡ j
      single_place zero zero u e f = refl
      single_place zero (suc j) u e f = absurd ((B.new v t).1 (j, f ∙ sym e))
      single_place (suc i) zero u e f = absurd ((B.new v t).1 (i, e ∙ sym f))
      single_place (suc i) (suc j) u e f = ap suc (B.pairing.apart i j u e f)

      small : (i u : ℕ) → at (suc v ∷ p) i ≡ suc u → u < width
      small zero u e = omega (arith, e, (B.new v t).0, B.column)
      small (suc i) u e = (B.pairing.holds i u e).0

      below : suc (size p) ≤ width
      below = size_by_d width (suc v ∷ p) single_place small

  -- a value that is free is not dead
  free_alive : (v : ℕ) → has (bits s.free) v ≡ true → has (bits s.dead) v ≡ false
  free_alive v t = is_false (has (bits s.dead) v) (λ e. let k = B.shut v e in (B.new v t).1 (k.0, k.1))

  module _ (row : ℕ) (low : Below s.d row) where
    -- a value of a row, the new one among them, is below d
    below : (i v : ℕ) → has (at (R ++ row ∷ []) i) v ≡ true → v < s.d
    below i v t = elim (holds_cases R row i v t) [ inl b ↦ B.small i v b.1 | inr e ↦ low v e.1 ]

    -- ---- a row of dead values, or no value that is free: no pairing with the row is larger

    holder_alive : (i v : ℕ) → i < length R → has (at R i) v ≡ true → has (bits s.dead) v ≡ false
        → alive_mate (bits s.dead) (at p i) ≡ true
    holder_alive i v h t n =
        let m = full_mate p (omega (arith, B.full, B.pairing.fits)) i (omega (arith, h, B.pairing.fits)) in
        alive_in (bits s.dead) (at p i) m.0 m.1 (is_false (has (bits s.dead) m.0) (λ e.
        let k = B.shut m.0 e in
        let same : k.0 ≡ i = B.pairing.apart k.0 i m.0 k.1 m.1 in
        not_both (k.2 v (ap (λ (j : ℕ). has (at R j) v) same ∙ t)) n))

    dead_largest : Inside row (bits s.dead) → Largest width (R ++ row ∷ []) (p ++ zero ∷ [])
    dead_largest ins =
        failed_largest width (R ++ row ∷ []) (p ++ zero ∷ []) (pairing_open R row p B.pairing)
        (λ i. alive_mate (bits s.dead) (at p i)) closed tried
      where
        heard : (v : ℕ) → has (bits s.dead) v ≡ false → Heard width (R ++ row ∷ []) (λ i. alive_mate (bits s.dead) (at p i)) v
        heard v n j inn = elim (holds_cases R row j v inn.1) [
          | inl b ↦ holder_alive j v b.0 b.1 n
          | inr e ↦ absurd (not_both (ins v e.1) n)
        ]

        closed : (i : ℕ) → alive_mate (bits s.dead) (at p i) ≡ true
            → (w : ℕ) × (at (p ++ zero ∷ []) i ≡ suc w) × Heard width (R ++ row ∷ []) (λ i. alive_mate (bits s.dead) (at p i)) w
        closed i a = let k = alive_out (bits s.dead) (at p i) a in (k.0, at_open p i ∙ k.1, heard k.0 k.2)

        tried : (v : ℕ) → v < width → (Seated (p ++ zero ∷ []) v → ⊥) → Heard width (R ++ row ∷ []) (λ i. alive_mate (bits s.dead) (at p i)) v
        tried v h none = heard v (is_false (has (bits s.dead) v) (λ e. let k = B.shut v e in none (open_seated p v (k.0, k.1))))

    full_largest : bits s.free ≡ zero → Largest width (R ++ row ∷ []) (p ++ zero ∷ [])
    full_largest z =
        failed_largest width (R ++ row ∷ []) (p ++ zero ∷ []) (pairing_open R row p B.pairing) (λ i. false) (λ i a. absurd (not_both a refl))
        (λ v h none i inn.
        absurd (not_both (B.free v (below i v inn.1) (λ q. none (open_seated p v q))) (ap (λ (x : ℕ). has x v) z ∙ has-empty v)))

    pub passed_largest : Inside row (bits s.dead) ⊎ (bits s.free ≡ zero) → Largest width (R ++ row ∷ []) (p ++ zero ∷ [])
    passed_largest (inl ins) = dead_largest ins
    passed_largest (inr z) = full_largest z

    -- ---- the row gets a seat

    -- a fresh value that the new row does not hold is held by none
    unheld : (i v : ℕ) → has (at (R ++ row ∷ []) i) v ≡ true → has (bits s.fresh) v ≡ true → has row v ≡ false → ⊥
    unheld i v h f n = elim (holds_cases R row i v h) [ inl b ↦ not_both f (B.fresh i v b.1) | inr e ↦ not_both e.1 n ]

    -- a fresh value of the row is free: it is no row's mate
    pub fresh_free : Inside (bit_and row (bits s.fresh)) (bits s.free)
    fresh_free v t =
        let both : (has row v && has (bits s.fresh) v) ≡ true = sym (has-and row (bits s.fresh) v) ∙ t in
        B.free v (low v (and_left (has row v) (has (bits s.fresh) v) both)) (λ q.
        not_both (and_right (has row v) (has (bits s.fresh) v) both) (B.fresh q.0 v (B.pairing.holds q.0 v q.1).1))

    pub bench_more : (v : ℕ) → has (bits s.free) v ≡ true → (p' : List ℕ) → Grown (R ++ row ∷ []) v (p ++ zero ∷ []) p'
        → (s' : Seating) → Reseated s row v s' → Bench s' (R ++ row ∷ []) columns p'
    bench_more v t p' G s' T = record {
      used = omega (arith, longer, B.used, T.used);
      column = omega (arith, B.column, T.d);
      pairing = G.pairing;
      full = omega (arith, longer, G.larger, size_open p, B.full);
      small = λ i u h. omega (arith, below i u h, T.d);
      new = λ u h.
          let k = minus_out (bits s.free) (single v) u (ap (λ (x : ℕ). has x u) (sym T.free) ∙ h) in (
            omega (arith, (B.new u k.0).0, T.d),
            λ q. elim (G.from u q) [
              | inl e ↦ not_both (ap (has (single v)) e ∙ has_same v) k.1
              | inr old ↦ (B.new u k.0).1 (seated_open p u old)
            ],
          );
      free = λ u h none.
          let old = B.free u (omega (arith, h, T.d)) (λ q. none (G.there u (open_seated p u q))) in
          ap (λ (x : ℕ). has x u) T.free
          ∙ elim (left_or_same (bits s.free) v u old) [ inl e ↦ absurd (none (subst (Seated p') (sym e) G.seated)) | inr m ↦ m ];
      shut =
          subst (Shut (R ++ row ∷ []) p') (sym T.dead)
          (G.shut (bits s.dead) (shut_open R row p (bits s.dead) B.pairing B.shut) (free_alive v t));
      fresh = λ i u h. is_false (has (bits s'.fresh) u) (λ e.
          let k = minus_out (bits s.fresh) row u (ap (λ (x : ℕ). has x u) (sym T.fresh) ∙ e) in
          unheld i u h k.0 k.1);
      index =
          subst (Index (R ++ row ∷ []) columns) (sym T.heavy)
          (subst (λ (n : ℕ). Index (R ++ row ∷ []) columns (bit_or (bits s.heavy) (single n))) B.used
          (index_open R row columns (bits s.heavy) B.index));
    }
      where
        longer : length (R ++ row ∷ []) ≡ length R + 1
        longer = length-append R (row ∷ [])

    -- what a search may rely on; the rows may have gone into columns before
    pub bench_searches : (columns' : List ℕ) (heavy' : ℕ) → length R < seats → Index R columns' heavy'
        → Searches (bits s.free) (R ++ row ∷ []) columns' (bit_or heavy' (single (length R))) (p ++ zero ∷ [])
    bench_searches columns' heavy' room X = record {
      few = let e : length (R ++ row ∷ []) ≡ length R + 1 = length-append R (row ∷ []) in omega (arith, room);
      index = index_open R row columns' heavy' X;
      pairing = pairing_open R row p B.pairing;
      new = λ u h q. (B.new u h).1 (seated_open p u q);
    }

    -- a free value that the row holds goes to it at once
    pub bench_direct : (v : ℕ) → has (bits s.free) v ≡ true → has row v ≡ true → Grown (R ++ row ∷ []) v (p ++ zero ∷ []) (p ++ (v + 1) ∷ [])
    bench_direct v t h =
        subst (Grown (R ++ row ∷ []) v (p ++ zero ∷ [])) put
        (row_free asks (length R) last (ap (λ (r : ℕ). has r v) (row_last R row) ∙ h) free_seat)
      where
        S : Searches (bits s.free) (R ++ row ∷ []) columns (bit_or (bits s.heavy) (single (length R))) (p ++ zero ∷ [])
        S = bench_searches columns (bits s.heavy) (seat_left v t) B.index

        asks : Asks v (R ++ row ∷ []) columns (bit_or (bits s.heavy) (single (length R))) (p ++ zero ∷ [])
        asks = record {
          small = omega (arith, (B.new v t).0, B.column);
          few = S.few;
          index = S.index;
          pairing = S.pairing;
          new = S.new v t;
        }

        last : length R < length (R ++ row ∷ [])
        last = let e : length (R ++ row ∷ []) ≡ length R + 1 = length-append R (row ∷ []) in omega arith

        free_seat : at (p ++ zero ∷ []) (length R) ≡ zero
        free_seat = at_open p (length R) ∙ past p (length R) (omega (arith, B.pairing.fits))

        put : set (p ++ zero ∷ []) (length R) (v + 1) ≡ p ++ (v + 1) ∷ []
        put = ap (λ (n : ℕ). set (p ++ zero ∷ []) n (v + 1)) (sym B.pairing.fits) ∙ set-append_seam p zero [] (v + 1)

    -- ---- a search from the free values but those that no row holds, for a row that holds no free value

    abbrev from : ℕ
    from = minus (bits s.free) (bits s.fresh)

    pub search_part : {rows columns' p₀ : List ℕ} {heavy' : ℕ} → Searches (bits s.free) rows columns' heavy' p₀
        → Searches from rows columns' heavy' p₀
    search_part S = record {
      few = S.few;
      index = S.index;
      pairing = S.pairing;
      new = λ v t. S.new v (minus_out (bits s.free) (bits s.fresh) v t).0;
    }

    -- is one from all of them
    pub search_all : (r : Option ℕ) (p₀ p' : List ℕ) (asked : ℕ) → bit_and row (bits s.free) ≡ zero → OfSearch r from (R ++ row ∷ []) p₀ p' asked
        → OfSearch r (bits s.free) (R ++ row ∷ []) p₀ p' asked
    search_all (Some v) p₀ p' asked apart O = (O.0, (minus_out (bits s.free) (bits s.fresh) v O.1).0, O.2)
    search_all None p₀ p' asked apart O = record {
      still = O.still;
      closed = O.closed;
      heard = λ v t. elim (true_or_false (has (bits s.fresh) v)) [
        | inl e ↦ λ j inn. absurd (unheld j v inn.1 e (is_false (has row v) (not-held v t)))
        | inr n ↦ O.heard v (minus_in (bits s.free) (bits s.fresh) v t n)
      ];
    }
      where
        not-held : (v : ℕ) → has (bits s.free) v ≡ true → has row v ≡ true → ⊥
        not-held v t h =
            let both = has-and row (bits s.free) v ∙ and_both (has row v) (has (bits s.free) v) h t in
            not_both both (ap (λ (x : ℕ). has x v) apart ∙ has-empty v)

    -- ---- a search has failed

    module _ (p' : List ℕ) (asked dead' : ℕ) (O : Failed (bits s.free) (R ++ row ∷ []) (p ++ zero ∷ []) p' asked)
        (D : Unreached asked p dead') where
      -- the values of a row that was not asked are those that no question reached
      unasked_dead : (j v : ℕ) → has asked j ≡ false → has (at (R ++ row ∷ []) j) v ≡ true → has dead' v ≡ true
      unasked_dead j v n t = elim (seated? p v) [
        | inr free ↦ absurd (not_both (O.heard v (B.free v (below j v t) free) j (small, t)) n)
        | inl q ↦ elim (true_or_false (has asked q.0)) [
          | inl a ↦
              let k = O.closed q.0 a in
              let same : k.0 ≡ v = suc_inj (sym k.1 ∙ at_open p q.0 ∙ q.1) in
              absurd (not_both (k.2 j (subst (λ (u : ℕ). In width (at (R ++ row ∷ []) j) u) (sym same) (small, t))) n)
          | inr f ↦ D.all q.0 v q.1 f
        ]
      ]
        where
          small : v < width
          small = omega (arith, below j v t, B.column)

      pub failed_shut : Shut R p dead'
      failed_shut u t = let k = D.only u t in (k.0, k.1, λ v h. unasked_dead k.0 v k.2 (holds_before R row k.0 v h))

      pub failed_row : Inside row dead'
      failed_row v h = unasked_dead (length R) v last (ap (λ (x : ℕ). has x v) (row_last R row) ∙ h)
        where
          last : has asked (length R) ≡ false
          last = is_false (has asked (length R)) (λ a.
              let k = O.closed (length R) a in
              not_mate (at_open p (length R) ∙ past p (length R) (omega (arith, B.pairing.fits))) k.1)

  -- the same seats, with another index and other dead values
  pub bench_other : (columns' : List ℕ) (entered' : ℕ) (heavy' dead' : Row) → Index R columns' (bits heavy') → Shut R p (bits dead')
      → Bench (record { d = s.d; used = s.used; entered = entered'; free = s.free; dead = dead'; fresh = s.fresh; heavy = heavy' })
      R columns' p
  bench_other columns' entered' heavy' dead' X S =
      record {
        used = B.used;
        column = B.column;
        pairing = B.pairing;
        full = B.full;
        small = B.small;
        new = B.new;
        free = B.free;
        shut = S;
        fresh = B.fresh;
        index = X;
      }
