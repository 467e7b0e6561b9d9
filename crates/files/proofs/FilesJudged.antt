-- A file by its parts, and by the cases that the file alone decides: from the one to the other. So the proofs of the round trip cite the parts by
-- name, and need not know in which order the cases stand. Assumes nothing.
use Prim.Native.Nat.{ℕ, zero, ◌+◌, ◌*◌, ◌≤◌, ◌<◌}
use mathlib.Core.Path.{◌≡◌, refl, ap}
use mathlib.Core.Logic.{◌≢◌, inl, inr}
use mathlib.Core.Bool.{false, not, ◌||◌}
use mathlib.Core.List.{List}
use native.Mathlib.Omega.{arith}
use lib.Dec.{eqb, ltb}
use lib.ListN.{length}
use borrow.Author.Tests.{eqb-true, eqb-false, ltb-false, not-false, eq-eqb, ne_eqb, lt-ltb, le-ltb}
use Rattle.sets.specs.Limits.{most_values, most_rows}
use Rattle.std.specs.Prelude.{None}
use Rattle.refusals.specs.declared.Refusal.TheVariants.{LongFile}
use Rattle.refusals.specs.Cases.{found}
use Rattle.refusals.proofs.Outcomes.{NoneApplies, Gives}
use Rattle.refusals.proofs.TablesJudged.{or_no, not_found}
use Rattle.files.specs.Files.{mark_in, version_in, values_in, count_in}
use Rattle.files.specs.FileCases.{front_cases, row_over, row_cases, file_cases}

module _ (file : List ℕ) where
  -- ---- by its parts

  -- 20 to 24 do not apply
  pub record HeaderRight : Type 0 where
    pub header : 8 ≤ length file
    pub mark : mark_in file ≡ 0x505654
    pub version : version_in file ≡ 1
    pub some_value : values_in file ≢ 0
    pub values : values_in file ≤ most_values
    pub few : count_in file ≤ most_rows

  -- nor does any other but 28
  pub record FileRight : Type 0 where
    pub front : HeaderRight
    pub whole : length file ≡ 8 + 8 * count_in file
    pub none_over : row_over file ≡ None

  abbrev due : ℕ
  due = 8 + 8 * count_in file

  -- ---- by its cases

  pub file_right : NoneApplies (file_cases file) → FileRight
  unfolding front_cases row_cases
  file_right (header, (mark, (version, (column, (many, (cut, (long, (over, _)))))))) =
      let values = or_no (eqb (values_in file) zero) (ltb most_values (values_in file)) column in
      let enough : due ≤ length file = ltb-false (length file) due cut in
      let no_more : length file ≤ due = ltb-false due (length file) long in
      record {
        front = record {
          header = ltb-false (length file) 8 header;
          mark = eqb-true (mark_in file) 0x505654 (not-false (eqb (mark_in file) 0x505654) mark);
          version = eqb-true (version_in file) 1 (not-false (eqb (version_in file) 1) version);
          some_value = eqb-false (values_in file) zero values.0;
          values = ltb-false most_values (values_in file) values.1;
          few = ltb-false most_rows (count_in file) many;
        };
        whole = omega arith;
        none_over = not_found (row_over file) over;
      }

  -- 20 to 24, one by one
  header_none : HeaderRight
      → (ltb (length file) 8 ≡ false)
      × (not (eqb (mark_in file) 0x505654) ≡ false)
      × (not (eqb (version_in file) 1) ≡ false)
      × ((eqb (values_in file) zero || ltb most_values (values_in file)) ≡ false)
      × (ltb most_rows (count_in file) ≡ false)
  header_none right = (
    le-ltb (length file) 8 right.header,
    ap not (eq-eqb (mark_in file) 0x505654 right.mark),
    ap not (eq-eqb (version_in file) 1 right.version),
    rw (ne_eqb (values_in file) zero right.some_value) (le-ltb most_values (values_in file) right.values),
    le-ltb most_rows (count_in file) right.few,
  )

  pub right_none : FileRight → NoneApplies (file_cases file)
  unfolding front_cases row_cases
  right_none right =
      let front = header_none right.front in
      let enough : ltb (length file) due ≡ false = le-ltb (length file) due (omega (arith, right.whole)) in
      let no_more : ltb due (length file) ≡ false = le-ltb due (length file) (omega (arith, right.whole)) in
      (front.0, (front.1, (front.2, (front.3, (front.4, (enough, (no_more, (ap found right.none_over, tt))))))))

  pub long_gives : HeaderRight → due < length file → Gives (file_cases file) LongFile
  unfolding front_cases
  long_gives right longer =
      let front = header_none right in
      let enough : ltb (length file) due ≡ false = le-ltb (length file) due (omega arith) in
      let too_long = lt-ltb due (length file) longer in
      inr (front.0, inr (front.1, inr (front.2, inr (front.3, inr (front.4, inr (enough, inl (too_long, refl)))))))
