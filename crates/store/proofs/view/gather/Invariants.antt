-- `gather` meets its contract. The tests of its two calls: the table rows that the desk does not hide, then the places of the desk. Assumes nothing.
use Rattle.std.specs.Prelude.{ℕ, not}
use Rattle.sheet.specs.Sheets.{owns, hides}
use Rattle.store.proofs.view.gather.Given as goal

abbrev pub ghost-put_those : goal.ghost-put_those
ghost-put_those a = λ (i : ℕ). not (hides a.passes.0.now.marks a.passes.1.now i)

abbrev pub ghost-put_those-2 : goal.ghost-put_those-2
ghost-put_those-2 a = owns a.passes.0.now.owners a.passes.1.now
