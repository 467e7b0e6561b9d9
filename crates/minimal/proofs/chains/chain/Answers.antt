-- `minimal::chain` meets its contract. The invariant: the chains lead through the rows from `i` on. Assumes nothing.
use Prim.Native.Nat.{ℕ, zero, ◌≤◌, ◌<◌, ◌+◌, ◌-◌}
use mathlib.Core.Path.{◌≡◌, sym, ap, ◌∙◌, subst}
use native.Mathlib.Omega.{arith}
use lib.Bits.{bit_or}
use lib.Count.{ones}
use lib.ListN.{length, set}
use Rattle.sets.specs.Rows.{width, bits, rows_of}
use Rattle.sets.specs.Sets.{single}
use Rattle.sets.proofs.RowValues.{count-row}
use Rattle.theory.specs.Pairings.{at}
use Rattle.minimal.specs.Code.Marking.{Chains, Sizes, Candidate}
use Rattle.minimal.proofs.Apart.{meets_no, meets_yes, apart_clear, common_not_clear}
use Rattle.minimal.proofs.Counts.{some_ones}
use Rattle.minimal.proofs.Links.{chains_skip, sizes_skip, chains_more, sizes_more}
use Rattle.minimal.proofs.chains.chain.Goals.{After-count-k, else-not-meets-via-then-not-meets+else-not-repeats, else-not-meets-via-else-not-meets}
use Rattle.minimal.proofs.chains.chain.Goals as goal

-- the row has a value, and no more than there can be
size : (c : After-count-k) → (zero < c.count-k.result) × (c.count-k.result ≤ width)
size c =
    let i : c.loop-i.i - 1 < length (rows_of c.args.rows.now) = omega arith in
    let some = some_ones (bits c.row_at-row.result) (λ z. c.requires.rows_len_bound.1 _ i (sym c.row_at-row.ensures.0 ∙ z)) in
    (omega arith, omega (arith, count-row c.row_at-row.result))

pub offset_bounds-head-k : goal.offset_bounds-head-k
offset_bounds-head-k c = record { fits = omega (arith, size (goal.at.offset_bounds-head-k c).After-count-k) }

pub bounds-head-k : goal.bounds-head-k
bounds-head-k c = omega (arith, size (goal.at.bounds-head-k c).After-count-k)

pub offset_bounds-head-k-then-not-repeats : goal.offset_bounds-head-k-then-not-repeats
offset_bounds-head-k-then-not-repeats c =
    record { fits = omega (arith, size (goal.at.offset_bounds-head-k-then-not-repeats c).After-count-k) }

pub bounds-head-k-then-not-repeats : goal.bounds-head-k-then-not-repeats
bounds-head-k-then-not-repeats c = omega (arith, size (goal.at.bounds-head-k-then-not-repeats c).After-count-k)

pub overflow_sub-k : goal.overflow_sub-k
overflow_sub-k c = omega (arith, size (goal.at.overflow_sub-k c).After-count-k)

pub with-sizes-requires : goal.with-sizes-requires
with-sizes-requires c = omega (arith, size (goal.at.with-sizes-requires c).After-count-k)

pub loop-i-preserved-then-not-repeats : goal.loop-i-preserved-then-not-repeats
loop-i-preserved-then-not-repeats c =
    let l = c.loop-i in
    let rows = rows_of c.args.rows.now in
    let i = l.i - 1 in
    let one : l.i ≡ i + 1 = omega arith in
    let here : i < length rows = omega arith in
    let same = c.row_at-row.ensures.0 in
    let many : c.count-k.result ≡ ones (at rows i) = c.count-k.ensures ∙ ap ones same in
    let apart = meets_no (bits c.args.singles) same c.meets.ensures c.if-not-meets.true in
    let judge : Candidate rows i = record {
      clear = apart_clear rows (bits c.args.singles) c.requires.rows_len_bound.2 (at rows i) apart;
      new = c.repeats.ensures.1 c.if-not-repeats.true;
    } in
    let few : ones (at rows i) ≤ width = omega (arith, size (goal.at.loop-i-preserved-then-not-repeats c).After-count-k) in
    let sizes = c.with-sizes.ensures ∙ ap (λ (n : ℕ). bit_or (bits l.sizes) (single (n - 1))) many in (
      rw c.from.ensures (subst (λ (n : ℕ). Chains rows (set l.next i (at l.head n)) (set l.head n i) i) (sym many)
          (chains_more rows l.i i one l.next l.head l.invariant.0 here judge few)),
      subst (Sizes rows i) (sym sizes) (sizes_more rows l.i i one (bits l.sizes) l.invariant.1),
    )

pub loop-i-preserved : goal.loop-i-preserved
loop-i-preserved c =
    let l = c.loop-i in
    let rows = rows_of c.args.rows.now in
    let one : l.i ≡ l.i - 1 + 1 = omega arith in
    let dim : Candidate rows (l.i - 1) → ⊥ = elim c.else-not-meets.branch [
      | else-not-meets-via-then-not-meets+else-not-repeats w ↦ λ k. k.new (w.repeats.ensures.0 w.if-not-repeats.false)
      | else-not-meets-via-else-not-meets w ↦
          let common = meets_yes (bits c.args.singles) c.row_at-row.ensures.0 c.meets.ensures w.if-not-meets.false in
          λ k. common_not_clear rows (bits c.args.singles) c.requires.rows_len_bound.2 _ common k.clear
    ] in
    (chains_skip rows l.i (l.i - 1) one l.next l.head dim l.invariant.0, sizes_skip rows l.i (l.i - 1) one (bits l.sizes) dim l.invariant.1)
