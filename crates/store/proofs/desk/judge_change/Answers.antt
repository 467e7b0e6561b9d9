-- `judge_change` meets its contract: each change is handed to its own part. Assumes nothing.
use mathlib.Core.Path.{◌≡◌, refl}
use native.Mathlib.Omega.{arith}
use borrow.Author.Rules.{rules}
use Rattle.refusals.specs.Cases.{decided}
use Rattle.store.specs.declared.Change.TheVariants.{Delete}
use Rattle.store.specs.declared.Target.TheVariants.{Own}
use Rattle.store.proofs.Trusting.{limits}
use Rattle.store.proofs.Serving.{judged-take, judged_insert}
use Rattle.store.proofs.desk.judge_change.Goals as goal

pub delete_table-requires : goal.delete_table-requires
delete_table-requires c =
    let L = limits _ _ _ _ _ c.requires in (L.desk, omega (arith, c.row_count.ensures, L.table_rows))

pub offset_bounds-counts-desk : goal.offset_bounds-counts-desk
offset_bounds-counts-desk c = record { fits = omega (arith, (limits _ _ _ _ _ c.requires).desk) }

pub bounds-counts-desk : goal.bounds-counts-desk
bounds-counts-desk c = (limits _ _ _ _ _ c.requires).desk

pub owed-owed-requires : goal.owed-owed-requires
owed-owed-requires c = (limits _ _ _ _ _ c.requires).desks

pub overflow_add-sheet : goal.overflow_add-sheet
overflow_add-sheet c = record { fits = omega (arith, (limits _ _ _ _ _ c.requires).used, c.owed-owed.ensures.upper_bound) }

pub offset_bounds-counts-desk-in-Insert : goal.offset_bounds-counts-desk-in-Insert
offset_bounds-counts-desk-in-Insert c = record { fits = omega (arith, (limits _ _ _ _ _ c.requires).desk) }

pub bounds-counts-desk-in-Insert : goal.bounds-counts-desk-in-Insert
bounds-counts-desk-in-Insert c = (limits _ _ _ _ _ c.requires).desk

pub insert-requires : goal.insert-requires
insert-requires c = (limits _ _ _ _ _ c.requires).values

pub returns-in-Delete-Own : goal.returns-in-Delete-Own
returns-in-Delete-Own c =
    let own : c.args.change ≡ Delete (Own c.in-Delete-Own.n) = search rules in
    rw own (judged-take c.requires _ _ c.delete_own.ensures)

pub returns-in-Insert : goal.returns-in-Insert
returns-in-Insert c =
    rw c.in-Insert.is
    (judged_insert c.requires _ _ c.owed-owed.ensures.value _ c.insert.ensures)

pub returns-in-Reset : goal.returns-in-Reset
unfolding decided
returns-in-Reset c = rw c.in-Reset.is refl
