-- The next row: it raises the rank by at most one, and is tried after those before it. Assumes nothing.
use Prim.Native.Nat.{ℕ, zero, suc, ◌+◌, ◌≤◌, ◌<◌}
use mathlib.Core.Path.{◌≡◌, refl, sym, ap, ◌∙◌}
use mathlib.Core.Logic.{inl, inr}
use mathlib.Core.Bool.{Bool, true, false, cond}
use mathlib.Core.List.{List}
use native.Mathlib.Nat.{add-zero, add-suc, suc-add}
use native.Mathlib.Omega.{arith}
use lib.Dec.{ltb}
use lib.ListN.{length, set}
use lib.Seq.{set-get_or}
use borrow.Author.Tests.{le-ltb}
use Rattle.theory.specs.Pairings.{rank, at, Pairing}
use Rattle.theory.specs.Kept.{marked, pick, try, tries}
use Rattle.theory.specs.Code.Search.{mask}
use Rattle.theory.proofs.Places.{Mate, mate?, not_mate, at_less, at_same, size_less}
use Rattle.theory.proofs.PairingSteps.{pairing_drop}
use Rattle.theory.proofs.Enumerations.{OfRank, rank_bound, rank_met}
use Rattle.theory.proofs.Marks.{mark_cases, pairing_marked, pairing_whole, pairing_mask, rank-mask}

module _ (d : ℕ) (view : List ℕ) where
  -- a pairing that does not use row x is one of the rows without x
  pub pairing_unused : (ms : List Bool) (x : ℕ) (p : List ℕ) → Pairing d (mask (set ms x true) view) p → at p x ≡ zero → Pairing d (mask ms view) p
  pairing_unused ms x p P z = pairing_mask d view p ms others (pairing_whole d view p (set ms x true) P)
    where
      others : (i v : ℕ) → at p i ≡ suc v → marked ms i ≡ true
      others i v e = elim (mark_cases ms x i (pairing_marked d view p (set ms x true) P i v e)) [
        | inl s ↦ absurd (not_mate (ap (at p) s ∙ z) e)
        | inr m ↦ m
      ]

  rank_step_masked : (ms : List Bool) (x : ℕ) → rank d (mask (set ms x true) view) ≤ suc (rank d (mask ms view))
  rank_step_masked ms x = go (mate? (at q x))
    where
      met : OfRank d (mask (set ms x true) view)
      met = rank_met d (mask (set ms x true) view)

      q : List ℕ
      q = met.0

      go : Mate (at q x) → rank d (mask (set ms x true) view) ≤ suc (rank d (mask ms view))
      go (inl z) = omega (arith, met.2, rank_bound d (mask ms view) q (pairing_unused ms x q met.1 z))
      go (inr t) =
          let h : x < length q = at_less q x t.0 t.1 in
          let P = pairing_unused ms x (set q x zero) (pairing_drop d (mask (set ms x true) view) q x met.1 h) (at_same q x zero h) in
          omega (arith, met.2, size_less q x t.0 t.1, rank_bound d (mask ms view) (set q x zero) P)

  -- a row raises the rank by at most one
  pub rank_step : (ms : List Bool) (x : ℕ) → rank d (pick (set ms x true) view) ≤ suc (rank d (pick ms view))
  rank_step ms x = omega (arith, rank-mask d ms view, rank-mask d (set ms x true) view, rank_step_masked ms x)

  -- ---- tries in turn

  -- a row that is marked already is passed by
  pub try-marked : (ms : List Bool) (i : ℕ) → marked ms i ≡ true → try d view ms i ≡ ms
  unfolding try
  try-marked ms i t =
      ap (λ (l : List Bool). cond (ltb (rank d (pick ms view)) (rank d (pick l view))) l ms) same
      ∙ ap (λ (b : Bool). cond b ms ms) (le-ltb (rank d (pick ms view)) (rank d (pick ms view)) (omega arith))
    where
      same : set ms i true ≡ ms
      same = ap (set ms i) (sym t) ∙ set-get_or ms i false

  pub tries_none : (i : ℕ) (ms : List Bool) → ms ≡ tries d view zero i ms
  unfolding tries
  tries_none i ms = refl

  -- one row more is tried at the end
  pub tries_next : (n i : ℕ) (ms : List Bool) → tries d view (suc n) i ms ≡ try d view (tries d view n i ms) (i + n)
  unfolding tries
  tries_next zero i ms = ap (try d view ms) (sym (add-zero i))
  tries_next (suc n) i ms =
      tries_next n (suc i) (try d view ms i) ∙ ap (try d view (tries d view n (suc i) (try d view ms i))) (suc-add i n ∙ sym (add-suc i n))
