-- `gather` meets its contract: the table's part, then the desk's own. Assumes nothing.
use Rattle.std.proofs.Common.{ℕ, zero, ◌≤◌, Bool, not, List, arith, rules}
use Rattle.sheet.specs.Sheets.{hides}
use Rattle.sheet.proofs.UptoLaws.{count-le}
use Rattle.sheet.proofs.PlaceRows.{place_rows}
use Rattle.store.specs.Code.Views.{Filled}
use Rattle.store.proofs.Gathering.{viewed}
use Rattle.store.proofs.view.gather.Goals as goal

-- no more rows are seen than there are
few : {f : ℕ → Bool} {from old rows : List ℕ} {many end : ℕ} → Filled f from many zero old end rows → end ≤ many
few {f} {many = many} F = omega (arith, F.count, count-le f many)

pub put_those-seen-requires : goal.put_those-seen-requires
put_those-seen-requires c κs within =
    search (rules, arith, count-le (λ i. not (hides c.args.sheet.now.marks c.args.desk i)) c.row_count.result)

pub put_those-requires : goal.put_those-requires
put_those-requires c κs within =
    search (rules, arith, few c.put_those-seen.ensures, place_rows c.args.sheet.now.sets (search rules))

pub returns : goal.returns
returns c =
    let seen = few c.put_those-seen.ensures in
    viewed {hid = hides c.args.sheet.now.marks c.args.desk} c.row_count.ensures c.put_those-seen.ensures c.put_those.ensures
    (omega (arith, seen, c.put_those.ensures.count)) c.requires.4
