-- `Sheet::close_up` meets its contract. The invariant: the places before the next are passed, and nothing but places has moved. Assumes nothing.
use mathlib.Core.Path.{◌≡◌, refl, ap}
use mathlib.Core.Bool.{Bool, ◌&&◌}
use native.Mathlib.Numerals.{unary_clauses}
use native.Mathlib.Omega.{arith}
use borrow.Author.Rules.{rules}
use lib.Dec.{eqb, leb, ltb}
use lib.ListN.{set}
use Rattle.theory.specs.Pairings.{at}
use Rattle.sheet.specs.declared.Sheet.{Sheet}
use Rattle.sheet.specs.Changes.{placing}
use Rattle.sheet.proofs.ClosingPass.{passing_start, passing_few, passing_more}
use Rattle.sheet.proofs.Sheet.close_up.Goals as goal

pub loop-next-init : goal.loop-next-init
loop-next-init c =
    let a = c.args in
    record {
      seen_few = omega arith;
      left_few = omega arith;
      passed = passing_start a.desk a.from a.upto a.self.now.sets a.self.now.owners;
      rest = refl;
    }

pub loop-next-preserved : goal.loop-next-preserved
loop-next-preserved c =
    let l = c.loop-next in
    let among : c.contains.result ≡ (leb c.args.from l.seen && ltb l.seen c.args.upto) = search rules in
    let goes = ap (λ (b : Bool). eqb (at l.self.owners l.next) c.args.desk && b) among in
    let passed =
    passing_more l.invariant.passed (search rules) (search rules) _ goes c.from.result c.from.ensures c.from-left.result c.from-left.ensures
    (omega (arith, c.loop-next-test.true, c.requires)) _ c.row_at-set.ensures.0 _ c.put_row.ensures in
    let few = passing_few passed (search rules) (search rules) in
    record {
      seen_few = simp unary_clauses few.0;
      left_few = simp unary_clauses few.1;
      passed = simp unary_clauses passed;
      rest = ap (λ (s : Sheet). placing s s.used c.put_row.new.words (set l.self.owners l.left (at l.self.owners l.next))) l.invariant.rest;
    }
