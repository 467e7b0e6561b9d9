-- What follows once table, sheet and desk are right. Assumes nothing.
use Prim.Native.Nat.{ℕ, ◌+◌, ◌-◌, ◌≤◌, ◌<◌}
use mathlib.Core.Path.{◌≡◌, sym, ap, ◌∙◌}
use mathlib.Core.List.{List}
use native.Mathlib.Omega.{arith}
use lib.ListN.{length}
use Rattle.sets.specs.Rows.{rows_of}
use Rattle.sets.specs.Limits.{most_desks, most_held, most_places, most_rows, most_values, promised}
use Rattle.theory.specs.Pairings.{at}
use Rattle.sets.proofs.BadRows.{bad_row-none}
use Rattle.distinct.specs.Code.Steps.{InColumn}
use Rattle.sheet.specs.declared.Sheet.{Sheet}
use Rattle.sheet.specs.Upto.{sum_to}
use Rattle.sheet.specs.Sheets.{own, owns, held, hides, owed}
use Rattle.sheet.proofs.UptoLaws.{sum_ext}
use Rattle.sheet.proofs.OwnAfter.{length-own}
use Rattle.sheet.proofs.SoundParts.{sound_parts}
use Rattle.store.specs.Desks.{view}
use Rattle.refusals.specs.TableCases.{table_cases}
use Rattle.refusals.proofs.TablesJudged.{TableRight, right_parts, judged_right}
use Rattle.store.specs.Code.Serving.{Trusted}
use Rattle.store.proofs.ViewRows.{within-those, within-view}

-- the limits that the code leans on
pub record Limits (d : ℕ) (table : List ℕ) (s : Sheet) (counts : List ℕ) (k : ℕ) : Type 0 where
  pub desk : k < most_desks
  pub desks : s.desks ≤ most_desks
  pub table_rows : length table ≤ most_rows
  pub values : d ≤ most_values
  pub used : s.used ≤ most_places
  pub promise : s.used + owed s ≤ most_places
  pub share : held s k ≤ most_held
  pub mine : at counts k ≡ length (own s k)
  pub owes : sum_to (λ j. promised - at counts j) s.desks ≡ owed s

module _ (d : ℕ) (table : List ℕ) (s : Sheet) (counts : List ℕ) (k : ℕ) (T : Trusted d table s counts k) where
  right : TableRight most_rows d table
  right = right_parts most_rows d table (judged_right (table_cases most_rows d table) T.table_right)

  pub limits : Limits d table s counts k
  limits =
      let S = sound_parts s T.sheet_right in
      let there = T.desk_there in
      let few = S.few_desks in
      record {
        desk = omega arith;
        desks = few;
        table_rows = right.small;
        values = right.values;
        used = S.places;
        promise = S.promise;
        share = S.share k there;
        mine = T.counted k (omega arith) ∙ sym (length-own s k);
        owes =
            sum_ext (λ j. promised - at counts j) (λ j. promised - held s j) s.desks
            (λ j h. ap (λ (n : ℕ). promised - n) (T.counted j (omega arith)));
      }

  -- every row of the desk's view is one of the column
  pub in_column : InColumn d (view table (hides s.marks k) (own s k))
  in_column =
      let S = sound_parts s T.sheet_right in
      record {
        column = right.values;
        rows_within =
            within-view d table (hides s.marks k) (own s k) (bad_row-none d table right.none_bad)
            (rw (sym T.same_d) (within-those s.d (owns s.owners k) (rows_of s.sets) s.used S.row));
      }
