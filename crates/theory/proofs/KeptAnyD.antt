-- The kept positions follow from the rows alone: every d that bounds their values gives the same ones. Assumes nothing.
use Prim.Native.Nat.{ℕ, zero, suc, ◌≤◌, ◌<◌}
use mathlib.Core.Path.{◌≡◌, refl, ap, ap₂, ◌∙◌}
use mathlib.Core.Bool.{Bool, true, cond}
use mathlib.Core.List.{List}
use native.Mathlib.Decide.{dec_lt}
use native.Mathlib.Omega.{arith}
use lib.Dec.{ltb}
use lib.ListN.{length, set}
use Rattle.sets.specs.Sets.{has}
use Rattle.sets.proofs.Bools.{not_both}
use Rattle.sets.proofs.Values.{has-empty}
use Rattle.sets.proofs.ValuesBelow.{within_has}
use Rattle.theory.specs.Family.{Rows}
use Rattle.theory.specs.Pairings.{rank, at, Pairing}
use Rattle.theory.specs.Kept.{pick, firsts, try, tries, marks, positions, kept}
use Rattle.theory.proofs.Places.{past}
use Rattle.theory.proofs.Enumerations.{rank_bound, rank_met}
use Rattle.theory.proofs.Marks.{mem-at, pick-view}

module _ (d e : ℕ) (le : d ≤ e) where
  pairing_up : (rows p : List ℕ) → Pairing d rows p → Pairing e rows p
  pairing_up rows p P = record { fits = P.fits; holds = λ i v m. let k = P.holds i v m in (omega (arith, k.0, le), k.1); apart = P.apart }

  pairing_down : (rows p : List ℕ) → Rows d rows → Pairing e rows p → Pairing d rows p
  pairing_down rows p R P = record { fits = P.fits; holds = λ i v m. (below i v (P.holds i v m).1, (P.holds i v m).1); apart = P.apart }
    where
      below : (i v : ℕ) → has (at rows i) v ≡ true → v < d
      below i v t = elim (dec_lt i (length rows)) [
        | yes h ↦ within_has d (at rows i) v (R (at rows i) (mem-at rows i h)) t
        | no n ↦ absurd (not_both t (ap (λ (r : ℕ). has r v) (past rows i (omega arith)) ∙ has-empty v))
      ]

  rank_any : (rows : List ℕ) → Rows d rows → rank d rows ≡ rank e rows
  rank_any rows R =
      let a = rank_met d rows in
      let b = rank_met e rows in
      omega (
        arith,
        a.2,
        b.2,
        rank_bound e rows a.0 (pairing_up rows a.0 a.1),
        rank_bound d rows b.0 (pairing_down rows b.0 R b.1),
      )

  module _ (view : List ℕ) (R : Rows d view) where
    picked : (ms : List Bool) → rank d (pick ms view) ≡ rank e (pick ms view)
    picked ms = rank_any (pick ms view) (λ r m. R r (pick-view ms view r m))

    try_any : (ms : List Bool) (i : ℕ) → try d view ms i ≡ try e view ms i
    unfolding try
    try_any ms i = ap₂ (λ (a b : ℕ). cond (ltb a b) (set ms i true) ms) (picked ms) (picked (set ms i true))

    tries_any : (n i : ℕ) (ms : List Bool) → tries d view n i ms ≡ tries e view n i ms
    unfolding tries
    tries_any zero i ms = refl
    tries_any (suc n) i ms = ap (tries d view n (suc i)) (try_any ms i) ∙ tries_any n (suc i) (try e view ms i)

    pub marks_any : marks d view ≡ marks e view
    unfolding marks
    marks_any = tries_any (length view) zero (firsts view)

    pub kept_any : kept d view ≡ kept e view
    unfolding kept
    kept_any = ap (positions zero) marks_any
