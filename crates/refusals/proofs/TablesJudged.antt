-- What is known once `judge` has judged a table: of one that is right, part by part, and of one that is refused. Assumes nothing.
use Prim.Native.Nat.{ℕ, zero, ◌≤◌}
use mathlib.Core.Path.{◌≡◌, refl, sym}
use mathlib.Core.Bool.{Bool, true, false, ◌||◌, false≢true}
use mathlib.Core.List.{List, ◌++◌}
use native.Mathlib.Omega.{arith}
use lib.Dec.{eqb, ltb}
use lib.ListN.{length}
use borrow.Author.Tests.{eqb-false, ltb-false, ne_eqb, le-ltb}
use Rattle.sets.specs.Limits.{most_values}
use Rattle.std.specs.Prelude.{Option, Some, None, Result, Ok, Err}
use Rattle.sets.specs.Tables.{bad_row}
use Rattle.refusals.specs.declared.Refusal.{Refusal}
use Rattle.refusals.specs.Cases.{Case, found, decided}
use Rattle.refusals.specs.TableCases.{table_cases}
use Rattle.refusals.proofs.Outcomes.{NoneApplies, Gives, stood, refusing, stands_first, refuses_first, not_ok, same_err}

-- ---- by the cases of any list

-- a judgement alone, with no answer
abbrev pub judgement : List Case → Result (Unit {0}) Refusal
judgement cs = decided Err cs (Ok tt)

pub judged_right : (cs : List Case) → judgement cs ≡ Ok tt → NoneApplies cs
judged_right = stood Err (Ok tt) (not_ok tt)

pub judged_refused : (cs : List Case) (r : Refusal) → judgement cs ≡ Err r → Gives cs r
judged_refused = refusing Err (Ok tt) (not_ok tt) same_err

-- where the first cases are judged alone: a refusal of theirs is given, and where none applies the later ones decide
module _ {A : Type 0} (cs ds : List Case) (a : Result A Refusal) where
  pub refused_first : (r : Refusal) → judgement cs ≡ Err r → decided Err (cs ++ ds) a ≡ Err r
  refused_first r e = refuses_first Err cs ds r (judged_refused cs r e) a

  pub passed_first : judgement cs ≡ Ok tt → decided Err (cs ++ ds) a ≡ decided Err ds a
  passed_first e = stands_first Err cs ds (judged_right cs e) a

-- ---- by the parts of a table

pub record TableRight (most d : ℕ) (table : List ℕ) : Type 0 where
  pub some_value : 1 ≤ d
  pub values : d ≤ most_values
  pub small : length table ≤ most
  pub none_bad : bad_row d table ≡ None

pub or_no : (a b : Bool) → (a || b) ≡ false → (a ≡ false) × (b ≡ false)
or_no false b e = (refl, e)
or_no true b e = absurd (false≢true (sym e))

pub not_found : (f : Option ℕ) → found f ≡ false → f ≡ None
not_found None e = refl
not_found (Some i) e = absurd (false≢true (sym e))

module _ (most d : ℕ) (table : List ℕ) where
  pub right_parts : NoneApplies (table_cases most d table) → TableRight most d table
  unfolding table_cases
  right_parts none =
      let rows = or_no (eqb d zero || ltb most_values d) (ltb most (length table)) none.0 in
      let values = or_no (eqb d zero) (ltb most_values d) rows.0 in
      let d-not : d ≡ zero → ⊥ = eqb-false d zero values.0 in
      record {
        some_value = omega arith;
        values = ltb-false most_values d values.1;
        small = ltb-false most (length table) rows.1;
        none_bad = not_found (bad_row d table) none.1.0;
      }

  pub parts_right : TableRight most d table → NoneApplies (table_cases most d table)
  unfolding table_cases
  parts_right right =
      let d-not : eqb d zero ≡ false = ne_eqb d zero (λ e. omega (arith, right.some_value)) in
      rw (d-not, le-ltb most_values d right.values, le-ltb most (length table) right.small, right.none_bad) (refl, (refl, tt))
