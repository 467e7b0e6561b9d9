-- `list_kept` meets its contract. Assumes nothing.
use Prim.Native.Nat.{ℕ, ◌≤◌}
use mathlib.Core.Path.{refl, sym, ap, ◌∙◌, subst}
use mathlib.Core.List.{◌++◌}
use lib.ListN.{length, drop}
use borrow.Author.Tests.{lt-ltb, le-ltb}
use Rattle.std.specs.Prelude.{Ok}
use Rattle.sets.specs.Rows.{rows_of}
use Rattle.theory.specs.Kept.{kept}
use Rattle.store.specs.declared.Answer.TheVariants.{Listed}
use Rattle.refusals.specs.Cases.{decided}
use Rattle.store.specs.Answers.{accepted}
use Rattle.store.specs.Desks.{list_after}
use Rattle.store.proofs.desk.list_kept.Goals as goal

pub returns-then-list-row_count : goal.returns-then-list-row_count
unfolding decided list_after accepted
returns-then-list-row_count c = (simp (sym c.row_count.ensures, lt-ltb _ _ c.if-list-row_count.true), refl)

pub returns : goal.returns
unfolding decided list_after accepted
returns c =
    let o = c.distinct.ensures in
    let room = subst (λ (n : ℕ). n ≤ length c.args.list.now) c.row_count.ensures c.if-list-row_count.false in (
      simp (le-ltb _ _ room, le-ltb _ _ c.requires.0) (ap (λ (n : ℕ). Ok (Listed n)) o.0),
      o.1 ∙ ap (λ (k : ℕ). kept c.args.d (rows_of c.args.rows.now) ++ drop k c.args.list.now) o.0,
    )
