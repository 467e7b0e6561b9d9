-- One row more: where it gets a seat it raises the rank of the marked rows, and else it does not. Assumes nothing.
use Prim.Native.Nat.{ℕ, zero, suc, ◌+◌, ◌≤◌, ◌<◌}
use mathlib.Core.Path.{◌≡◌, refl, sym, ap, ap₂, ◌∙◌, subst}
use mathlib.Core.Logic.{inl, inr}
use mathlib.Core.Bool.{Bool, true, false}
use mathlib.Core.List.{List, [], ◌∷◌, ◌++◌}
use native.Mathlib.Nat.{zero-add}
use native.Mathlib.Numerals.{add-one}
use native.Mathlib.Omega.{arith}
use lib.ListN.{length, set, take, length-map, length-append}
use Rattle.sets.specs.Rows.{width}
use Rattle.theory.specs.Pairings.{size, at, Pairing}
use Rattle.theory.specs.Kept.{marked, try, tries, rows_at}
use Rattle.theory.proofs.NextRow.{tries_next}
use Rattle.theory.proofs.PlacedRows.{raised_stands, raised_kept, passed_by, passed_stands}
use Rattle.pairing.specs.declared.seats.Seating.{Seating}
use Rattle.pairing.specs.Code.Seats.{Below, Bench, Passed, Raised, OfSeat}
use Rattle.pairing.proofs.Benches.{passed_largest}
use Rattle.pairing.proofs.Snoc.{size_open}
use Rattle.distinct.specs.Code.Steps.{Pairs}

rows_snoc : (view is : List ℕ) (x : ℕ) → rows_at view (is ++ x ∷ []) ≡ rows_at view is ++ at view x ∷ []
rows_snoc view [] x = refl
rows_snoc view (i ∷ is) x = ap (λ (l : List ℕ). at view i ∷ l) (rows_snoc view is x)

-- ---- row i is asked for a seat

module _ {view : List ℕ} {ms : List Bool} {s : Seating} {rows columns mates : List ℕ} (G : Pairs view ms s rows columns mates)
    {i : ℕ} (h : i < length view) (n : marked ms i ≡ false)
    {s' : Seating} {rows' columns' mates' : List ℕ} (O : OfSeat (at view i) s rows s' rows' columns' mates') where
  abbrev is : List ℕ
  is = G.places

  small' : (j : ℕ) → Below s'.d (at view j)
  small' j v t = subst (λ (d : ℕ). v < d) (sym O.column) (G.small j v t)

  -- it has got one
  module _ (T : Raised (at view i) s rows s' rows') where
    listed' : take s'.used rows' ≡ rows_at view (is ++ i ∷ [])
    listed' = T.rows_more ∙ ap (λ (l : List ℕ). l ++ at view i ∷ []) G.listed ∙ sym (rows_snoc view is i)

    pairing' : Pairing width (rows_at view (is ++ i ∷ [])) (take s'.used mates')
    pairing' = subst (λ (l : List ℕ). Pairing width l (take s'.used mates')) listed' O.sits.bench.pairing

    larger : size (take s'.used mates') ≡ suc (length is)
    larger =
        let e : length (is ++ i ∷ []) ≡ length is + 1 = length-append is (i ∷ []) in
        omega (arith, O.sits.bench.full, ap length listed' ∙ length-map (is ++ i ∷ []) (at view))

    raised_pairs : Pairs view (set ms i true) s' rows' columns' mates'
    raised_pairs = record {
      sits = O.sits;
      places = is ++ i ∷ [];
      stands = raised_stands width view ms is G.stands i h n (take s'.used mates') pairing' larger;
      listed = listed';
      small = small';
    }

    raised_try : try width view ms i ≡ set ms i true
    raised_try = raised_kept width view ms is G.stands i h n (take s'.used mates') pairing' larger

  -- it has got none
  module _ (T : Passed (at view i) s rows s' rows') where
    listed'' : take s'.used rows' ≡ rows_at view is
    listed'' = ap (λ (m : ℕ). take m rows') T.used ∙ T.rows_kept ∙ G.listed

    bench : Bench s' (rows_at view is) columns' (take s'.used mates')
    bench = subst (λ (l : List ℕ). Bench s' l columns' (take s'.used mates')) listed'' O.sits.bench

    full : size (take s'.used mates') ≡ length is
    full = bench.full ∙ length-map is (at view)

    most : (q : List ℕ) → Pairing width (rows_at view (is ++ i ∷ [])) q → size q ≤ length is
    most q Q =
        omega (
          arith,
          full,
          size_open (take s'.used mates'),
          passed_largest s' (rows_at view is) columns' (take s'.used mates') bench (at view i) (small' i) T.why q
              (subst (λ (l : List ℕ). Pairing width l q) (rows_snoc view is i) Q),
        )

    passed_try : try width view ms i ≡ ms
    passed_try = passed_by width view ms is G.stands i h n (take s'.used mates') bench.pairing full most

    passed_same : Pairs view ms s' rows' columns' mates'
    passed_same = record { sits = O.sits; places = is; stands = G.stands; listed = listed''; small = small' }

    passed_marked : Pairs view (set ms i true) s' rows' columns' mates'
    passed_marked = record {
      sits = O.sits;
      places = is;
      stands = passed_stands width view ms is G.stands i h n (take s'.used mates') bench.pairing full most;
      listed = listed'';
      small = small';
    }

  -- marked all the same, as a minimal row is
  pub pairs_marked : Pairs view (set ms i true) s' rows' columns' mates'
  pairs_marked = elim O.either [ inl T ↦ passed_marked T | inr T ↦ raised_pairs T ]

  -- tried, and kept where it has got a seat
  pub pairs_kept : s.used < s'.used → Pairs view (set ms i true) s' rows' columns' mates' × (try width view ms i ≡ set ms i true)
  pairs_kept more = elim O.either [ inl T ↦ absurd (omega (arith, more, T.used)) | inr T ↦ (raised_pairs T, raised_try T) ]

  pub pairs_passed : s'.used ≤ s.used → Pairs view ms s' rows' columns' mates' × (try width view ms i ≡ ms)
  pairs_passed less = elim O.either [ inl T ↦ (passed_same T, passed_try T) | inr T ↦ absurd (omega (arith, less, T.used)) ]

-- ---- one row more has been tried

pub tried_more : (view : List ℕ) (ms₀ ms : List Bool) (n : ℕ) (ms' : List Bool) → ms ≡ tries width view n zero ms₀
    → try width view ms n ≡ ms' → ms' ≡ tries width view (n + 1) zero ms₀
tried_more view ms₀ ms n ms' e t =
    sym (
    ap (λ (k : ℕ). tries width view k zero ms₀) (add-one n) ∙ tries_next width view n zero ms₀
    ∙ ap₂ (try width view) (sym e) (zero-add n) ∙ t
    )
