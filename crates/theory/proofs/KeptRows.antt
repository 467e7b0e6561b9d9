-- The rows at the kept positions are the marked rows; they have the rank of the view and include its minimal sets. Assumes nothing.
use Prim.Native.Nat.{ℕ, zero, suc, ◌+◌, ◌≤◌}
use mathlib.Core.Path.{◌≡◌, refl, sym, ap, ap₂, ◌∙◌, subst}
use mathlib.Core.Bool.{Bool, true, false}
use mathlib.Core.List.{List, [], ◌∷◌, map}
use native.Mathlib.Nat.{not-suc-le-zero, suc_inj, zero-add, suc-add, add-suc, add-zero}
use native.Mathlib.Omega.{arith}
use lib.ListN.{length, length-map}
use Rattle.theory.specs.Pairings.{rank, at}
use Rattle.theory.specs.Kept.{pick, firsts, minimals, tries, marks, positions, kept, rows_at}
use Rattle.theory.proofs.GreedyRank.{Reached, unraised_rank, tries_reached}
use Rattle.theory.proofs.Marks.{Fewer, length_more}
use Rattle.theory.proofs.MinimalRows.{length-firsts}

-- what stands at the positions of the marks is what is marked; the marks begin at place k
at-positions : (g : ℕ → ℕ) (ms : List Bool) (rows : List ℕ) (k : ℕ) → length ms ≡ length rows → ((j : ℕ) → g (k + j) ≡ at rows j)
    → map g (positions k ms) ≡ pick ms rows
unfolding positions pick
at-positions g [] rows k l e = refl
at-positions g (b ∷ ms) [] k l e = absurd (let z : suc (length ms) ≡ zero = l in omega arith)
at-positions g (true ∷ ms) (r ∷ rows) k l e =
    ap₂ {B = List ℕ} (λ x y. x ∷ y) (ap g (sym (add-zero k)) ∙ e zero)
    (at-positions g ms rows (suc k) (suc_inj l) (λ j. ap g (suc-add k j ∙ sym (add-suc k j)) ∙ e (suc j)))
at-positions g (false ∷ ms) (r ∷ rows) k l e = at-positions g ms rows (suc k) (suc_inj l) (λ j. ap g (suc-add k j ∙ sym (add-suc k j)) ∙ e (suc j))

module _ (d : ℕ) (view : List ℕ) where
  reached : Reached d view (firsts view) (marks d view) (length view)
  unfolding marks
  reached = subst (Reached d view (firsts view) (tries d view (length view) zero (firsts view))) (zero-add (length view))
      (tries_reached d view (length view) zero (firsts view) (length-firsts view) (λ x h. absurd (not-suc-le-zero h)))

  pub length-marks : length (marks d view) ≡ length view
  length-marks = reached.fits

  -- the rows of the first step are all kept
  pub marks_more : Fewer (firsts view) (marks d view)
  marks_more = reached.more

  pub kept_rows : rows_at view (kept d view) ≡ pick (marks d view) view
  unfolding kept
  kept_rows = at-positions (at view) (marks d view) view zero length-marks (λ j. ap (at view) (zero-add j))

  pub length-kept : length (kept d view) ≡ length (pick (marks d view) view)
  length-kept = sym (length-map (kept d view) (at view)) ∙ ap length kept_rows

  pub kept-rank : rank d (pick (marks d view) view) ≡ rank d view
  kept-rank = unraised_rank d view (marks d view) length-marks reached.settled

  -- each row that the second step keeps raised the rank by one
  pub kept_cost : length (kept d view) + rank d (minimals view) ≤ length (minimals view) + rank d view
  kept_cost = omega (arith, length-kept, reached.cost, kept-rank)

  pub kept-minimals : length (minimals view) ≤ length (kept d view)
  kept-minimals = omega (arith, length-kept, length_more (firsts view) (marks d view) view marks_more)
