-- `minimal::sift` meets its contract. The invariant: the sizes of the rows that are not judged yet are those to come. Assumes nothing.
use mathlib.Core.Path.{refl}
use native.Mathlib.Omega.{arith}
use Rattle.sets.specs.Rows.{rows_of}
use Rattle.sets.proofs.LentRows.{rows_as_long}
use Rattle.minimal.proofs.Links.{heads_past}
use Rattle.minimal.proofs.Sifting.{levels_done, level_sieve, level_judged}
use Rattle.minimal.proofs.sieve.sift.Goals as goal

pub chain-sizes-requires-clause-rows_in_bounds : goal.chain-sizes-requires-clause-rows_in_bounds
chain-sizes-requires-clause-rows_in_bounds c =
    (c.requires.rows_in_bounds.0, refl, heads_past (rows_of c.args.rows.now) _ c.row_count.ensures)

pub level-found-requires-clause-k_le_width : goal.level-found-requires-clause-k_le_width
level-found-requires-clause-k_le_width c =
    let room = rows_as_long c.loop-less.mins c.args.mins.now c.loop-less.auto.mins in
    (omega (arith, c.in-Some.ensures.steps.small), omega (arith, c.requires.rows_in_bounds.1, room), c.chain-sizes.ensures.0)

pub level-found-requires-clause-sieve : goal.level-found-requires-clause-sieve
level-found-requires-clause-sieve c =
    level_sieve c.loop-less.invariant c.requires.rows_len_bound.1 c.in-Some.ensures.steps.least c.in-Some.ensures.steps.there

pub loop-less-preserved : goal.loop-less-preserved
loop-less-preserved c =
    let next = c.in-Some.ensures.steps in
    level_judged c.loop-less.invariant c.requires.rows_len_bound.1 next.least next.there _ next.rest c.level-found.ensures

pub returns : goal.returns
returns c = levels_done c.loop-less.invariant c.in-None.ensures.steps.0
