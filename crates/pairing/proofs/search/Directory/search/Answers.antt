-- `search` meets its contract. The invariant: what each value that is no longer left has heard. Assumes nothing.
use Rattle.pairing.proofs.SearchRounds.{round_end, round_found, round_again}
use Rattle.pairing.proofs.search.Directory.search.Goals as goal

pub returns-then-ask_value : goal.returns-then-ask_value
returns-then-ask_value c =
    let next = c.in-Some.ensures.steps in round_found c.loop-v.invariant (next.small, next.there) c.ask_value.ensures c.if-ask_value.true

pub loop-v-preserved : goal.loop-v-preserved
loop-v-preserved c =
    let next = c.in-Some.ensures.steps in
    rw next.rest (round_again c.loop-v.invariant (next.small, next.there) c.ask_value.ensures c.if-ask_value.false)

pub returns : goal.returns
returns c = round_end c.loop-v.invariant c.in-None.ensures.steps.0
