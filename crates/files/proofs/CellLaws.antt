-- A cell as it is read: the row itself, or where it is unknown all values of the column. Assumes nothing.
use Prim.Native.Nat.{ℕ, zero, ◌≤◌}
use mathlib.Core.Path.{◌≡◌, sym, ap, ◌∙◌}
use mathlib.Core.Logic.{◌≢◌}
use mathlib.Core.Bool.{Bool, true, not, cond}
use mathlib.Core.List.{List}
use native.Mathlib.Decide.{ℕ_discrete}
use lib.Dec.{eqb}
use borrow.Author.Tests.{eq-eqb, ne_eqb}
use Rattle.sets.specs.Sets.{all, below, within}
use Rattle.sets.proofs.Bools.{and_both, false_not}
use Rattle.sets.proofs.ValuesBelow.{within_all}
use Rattle.files.specs.Files.{values_in, row_in, cell_in}

module _ (file : List ℕ) (i : ℕ) where
  abbrev pick : Bool → ℕ
  pick unknown = cond unknown (all (values_in file)) (row_in file i)

  pub unknown_cell : row_in file i ≡ zero → cell_in file i ≡ all (values_in file)
  unfolding cell_in
  unknown_cell e = ap pick (eq-eqb (row_in file i) zero e)

  pub known_cell : row_in file i ≢ zero → cell_in file i ≡ row_in file i
  unfolding cell_in
  known_cell ne = ap pick (ne_eqb (row_in file i) zero ne)

  -- either way it is a row of the column, where the file's row has no value beyond it
  pub cell_within : (d : ℕ) → d ≡ values_in file → 1 ≤ d → below d (row_in file i) ≡ true → within d (cell_in file i) ≡ true
  unfolding within
  cell_within d values some low = elim (ℕ_discrete (row_in file i) zero) [
    | yes e ↦ ap (within d) (unknown_cell e ∙ ap all (sym values)) ∙ within_all d some
    | no ne ↦
        (let row = row_in file i in
        ap (within d) (known_cell ne) ∙ and_both (not (eqb row zero)) (below d row) (false_not (eqb row zero) (ne_eqb row zero ne)) low)
  ]
