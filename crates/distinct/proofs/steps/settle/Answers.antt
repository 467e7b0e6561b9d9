-- `settle` meets its contract: the steps work with as many values as there may be, and a column with fewer keeps the same rows. Assumes nothing.
use Prim.Native.Nat.{◌*◌, ◌≤◌}
use mathlib.Core.Path.{◌≡◌, sym, ap, ◌∙◌}
use native.Mathlib.Omega.{arith}
use lib.ListN.{length, take}
use lib.Seq.{length-take-le}
use Rattle.sets.specs.Rows.{row_words, width, rows_of}
use Rattle.sets.proofs.LentRows.{rows_as_long, rows_end, rows_front, rows_zero}
use Rattle.theory.specs.Kept.{tries, marks}
use Rattle.theory.proofs.KeptAnyD.{marks_any}
use Rattle.pairing.specs.Code.Seats.{seats}
use Rattle.distinct.proofs.Start.{column_rows, none_empty}
use Rattle.distinct.proofs.steps.settle.Goals.{After-mark_minimal}
use Rattle.distinct.proofs.steps.settle.Goals as goal

-- the places for rows and mates are as many as before, and so there are enough for the seats
rows-there : (c : After-mark_minimal) → seats ≤ length (rows_of c.mark_minimal.new.mins)
rows-there c =
    omega (arith, rows_as_long c.mark_minimal.new.mins c.args.rows.now c.mark_minimal.auto.mins, c.requires.places.0.seats)

words-there : (c : After-mark_minimal) → seats * row_words ≤ length c.mark_minimal.new.mins
words-there c = rows_end c.mark_minimal.new.mins seats (rows-there c)

mates-seats : (c : After-mark_minimal) → length (take seats c.mark_minimal.new.next) ≡ seats
mates-seats c = length-take-le seats c.mark_minimal.new.next (omega (arith, c.mark_minimal.auto.next, c.requires.places.1.seats))

pub mark_minimal-requires : goal.mark_minimal-requires
mark_minimal-requires c =
    let R = c.requires.view_len_bound in
    record {
      rows_len_bound = (R.0, R.1, R.2, none_empty c.args.d (rows_of c.args.view.now) R.3);
      rows_in_bounds = (c.requires.places.1.rows, c.requires.places.0.rows);
    }

pub slice_bounds-second_step-end : goal.slice_bounds-second_step-end
slice_bounds-second_step-end c = words-there (goal.at.slice_bounds-second_step-end c).After-mark_minimal

pub slice_bounds-second_step-end-2 : goal.slice_bounds-second_step-end-2
slice_bounds-second_step-end-2 c =
    sym (length-take-le (seats * row_words) c.mark_minimal.new.mins (words-there (goal.at.slice_bounds-second_step-end-2 c).After-mark_minimal))

pub slice_bounds-second_step-end-5 : goal.slice_bounds-second_step-end-5
slice_bounds-second_step-end-5 c = sym (mates-seats (goal.at.slice_bounds-second_step-end-5 c).After-mark_minimal)

pub second_step-requires : goal.second_step-requires
second_step-requires c =
    let m = (goal.at.second_step-requires c).After-mark_minimal in
    let R = c.requires.view_len_bound in
    record {
      keep_len = (c.mark_minimal.auto.keep ∙ R.1, R.3);
      rows_len = (rows_front seats c.mark_minimal.new.mins (rows-there m), rows_zero width, mates-seats m);
    }

pub returns : goal.returns
unfolding marks
returns c =
    let view = rows_of c.args.view.now in
    let column = c.requires.view_len_bound.3 in
    c.second_step.ensures ∙ ap (tries width view (length view) 0) c.mark_minimal.ensures
    ∙ sym (marks_any c.args.d width (omega (arith, column.column)) view (column_rows c.args.d view column))
