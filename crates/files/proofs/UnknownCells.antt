-- Unknown means the whole column (wish 3): an unknown cell can be every value of the column and no other, and a file of unknown cells alone is
-- read, as so many full cells. Assumes nothing.
use Prim.Native.Nat.{ℕ, zero, ◌+◌, ◌*◌, ◌≤◌, ◌<◌}
use mathlib.Core.Path.{◌≡◌, sym, ap, ◌∙◌}
use mathlib.Core.Logic.{◌↔◌}
use mathlib.Core.Bool.{Bool, true, not, cond}
use mathlib.Core.List.{List}
use native.Mathlib.Omega.{arith}
use lib.ListN.{length, replicate, length-replicate, get_or-replicate}
use lib.Pow.{pow_pos}
use lib.Seq.{ext_get_or}
use borrow.Author.Tests.{le-ltb}
use Rattle.std.specs.Prelude.{Ok, Err}
use Rattle.sets.specs.Sets.{has, all, below}
use Rattle.sets.proofs.ValuesBelow.{all-has, has_all, less_below}
use Rattle.refusals.specs.declared.Refusal.TheVariants.{FewPlaces}
use Rattle.refusals.proofs.Outcomes.{stands}
use Rattle.files.specs.Files.{values_in, count_in, row_in, cell_in, cells_in}
use Rattle.files.specs.FileCases.{file_cases}
use Rattle.files.specs.Reading.{judged, read_answer}
use Rattle.files.proofs.RowLaws.{length_list, list_at, lowest_none}
use Rattle.files.proofs.CellLaws.{unknown_cell}
use Rattle.files.proofs.FilesJudged.{HeaderRight, FileRight, right_none}
use Rattle.files.proofs.ReadFiles.{then_places}

-- 'Read the zero row as all d values'
pub unknown_has-all : (file : List ℕ) (i v : ℕ) → row_in file i ≡ 0 → (has (cell_in file i) v ≡ true) ↔ (v < values_in file)
unknown_has-all file i v e =
    let full = ap (λ (r : ℕ). has r v) (unknown_cell file i e) in
    (λ h. has_all (values_in file) v (sym full ∙ h), λ h. full ∙ all-has (values_in file) v h)

-- 'a file of zero rows only is accepted'
module _ (file : List ℕ) (header : HeaderRight file) (whole : length file ≡ 8 + 8 * count_in file)
    (unknown : (i : ℕ) → i < count_in file → row_in file i ≡ 0) where
  right : FileRight file
  right = record {
    front = header;
    whole = whole;
    none_over = lowest_none (λ i. not (below (values_in file) (row_in file i))) (count_in file) (λ i h.
        ap not (ap (below (values_in file)) (unknown i h) ∙ less_below (values_in file) zero (pow_pos (values_in file))));
  }

  read : judged file ≡ Ok (values_in file, count_in file)
  unfolding judged
  read = stands Err (file_cases file) (right_none file right) (Ok (values_in file, count_in file))

  pub all_unknown_read : (places : ℕ) → count_in file ≤ places → read_answer file places ≡ Ok (values_in file, count_in file)
  all_unknown_read places h =
      let t = count_in file in
      then_places file places (values_in file) t read
      ∙ ap (λ (b : Bool). cond b (Err FewPlaces) (Ok (values_in file, t))) (le-ltb places t h)

  pub all_unknown_full : cells_in file ≡ replicate (count_in file) (all (values_in file))
  all_unknown_full =
      let t = count_in file in
      let full = all (values_in file) in
      let long : length (cells_in file) ≡ t = length_list (cell_in file) t in
      ext_get_or zero (cells_in file) (replicate t full) (long ∙ sym (length-replicate t full)) (λ i h.
      let here : i < t = omega (arith, h, long) in
      list_at (cell_in file) t i here ∙ unknown_cell file i (unknown i here) ∙ sym (get_or-replicate t i full zero here))
