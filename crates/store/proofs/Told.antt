-- What a desk is told depends on its marks at table rows alone, and on the other desks by refusal 10 alone; who is given refusal 10. Assumes nothing.
use Prim.Native.Nat.{ℕ, ◌≤◌, ◌<◌}
use mathlib.Core.Path.{◌≡◌, refl, ap}
use mathlib.Core.Logic.{◌≢◌}
use mathlib.Core.Bool.{Bool, true, false, cond, not, ◌&&◌, false≢true}
use mathlib.Core.List.{List, [], ◌∷◌, ◌++◌}
use native.Mathlib.Omega.{arith}
use lib.Dec.{leb, ltb}
use lib.ListN.{length}
use borrow.Author.Tests.{leb-true, leb-false, le-leb, lt-leb, not-false}
use Rattle.std.specs.Prelude.{Result, Ok, Err}
use Rattle.sets.specs.Rows.{bits, as_row}
use Rattle.sets.specs.Limits.{most_held, most_in_view, promised}
use Rattle.sets.specs.Sets.{within}
use Rattle.sets.proofs.Bools.{and_left, and_right}
use Rattle.theory.specs.Pairings.{at}
use Rattle.theory.specs.Kept.{kept}
use Rattle.sheet.proofs.UptoLaws.{those_ext}
use Rattle.store.specs.declared.Target.TheVariants.{Table, Own}
use Rattle.store.specs.declared.Call.{Call}
use Rattle.store.specs.declared.Call.TheVariants.{Do, Ask}
use Rattle.store.specs.declared.Change.TheVariants.{Delete, Insert, Reset}
use Rattle.store.specs.declared.Question.TheVariants.{Look, Count, Distinct}
use Rattle.refusals.specs.declared.Refusal.{Refusal}
use Rattle.refusals.specs.declared.Refusal.TheVariants.{NoRow, HiddenAlready, BadSet, Full, NoRoom, ShortList, LongView}
use Rattle.refusals.proofs.NumberTable.{ten_no_room}
use Rattle.store.specs.declared.Answer.{Answer}
use Rattle.store.specs.declared.Answer.TheVariants.{Done, Seen, Counted, Listed}
use Rattle.refusals.specs.Cases.{Case, ◌gives◌, decided}
use Rattle.refusals.specs.Refusals.{number_of}
use Rattle.store.specs.Answers.{accepted}
use Rattle.store.specs.Desks.{view, serve, written, list_after, telling}
use Rattle.store.specs.Promise.{proper_call}
use Rattle.store.proofs.Judging.{skipped, applied}

-- ---- marks at table rows alone

module _ (table : List ℕ) (hid hid' : ℕ → Bool) (own : List ℕ) (same : (n : ℕ) → n < length table → hid n ≡ hid' n) where
  pub view_same : view table hid own ≡ view table hid' own
  unfolding view
  view_same =
      ap (λ (l : List ℕ). l ++ own)
      (those_ext (λ i. not (hid i)) (λ i. not (hid' i)) table (length table) (λ i h. ap not (same i h)))

  pub serve_same : (d : ℕ) (full : Bool) (places : ℕ) (c : Call) → serve d table full places hid own c ≡ serve d table full places hid' own c
  unfolding serve decided
  serve_same d full places (Do (Delete (Table n))) = go (leb (length table) n) refl
    where
      go : (b : Bool) → leb (length table) n ≡ b
          → cond b (Err NoRow) (cond (hid n) (Err HiddenAlready) (Ok Done)) ≡ cond b (Err NoRow) (cond (hid' n) (Err HiddenAlready) (Ok Done))
      go true e = refl
      go false e = rw (same n (leb-false (length table) n e))
  serve_same d full places (Do (Delete (Own n))) = refl
  serve_same d full places (Do (Insert row)) = refl
  serve_same d full places (Do Reset) = refl
  serve_same d full places (Ask q) = rw view_same

  pub telling_same : (d : ℕ) (c : Call) (list : List ℕ) (a : Result Answer Refusal)
      → telling d table hid own c list a ≡ telling d table hid' own c list a
  unfolding written
  telling_same d (Do c) list a = refl
  telling_same d (Ask q) list a = rw view_same

-- a refusal writes nothing
pub refused_list : (front : List ℕ) (r : Refusal) (list : List ℕ) → list_after front (Err r) list ≡ list
unfolding list_after accepted
refused_list front r list = refl

-- ---- refusal 10

and_false : (b : Bool) → (b && false) ≡ false
and_false true = refl
and_false false = refl

pub ten_is : (a : Result Answer Refusal) → number_of a ≡ 10 → a ≡ Err NoRoom
ten_is (Ok Done) e = absurd (omega arith)
ten_is (Ok (Seen row)) e = absurd (omega arith)
ten_is (Ok (Counted rows held)) e = absurd (omega arith)
ten_is (Ok (Listed n)) e = absurd (omega arith)
ten_is (Err r) e = ap Err (ten_no_room r e)

module _ (d : ℕ) (table : List ℕ) (full : Bool) (places : ℕ) (hid : ℕ → Bool) (own : List ℕ) where
  pub serve_ten : (c : Call) → number_of (serve d table full places hid own c) ≡ 10
      → (proper_call d c ≡ true) × (promised ≤ length own) × (length own < most_held) × (full ≡ true)
  unfolding serve proper_call decided
  serve_ten (Do (Delete (Table n))) e =
      absurd (omega (
        arith,
        (skipped 10 (hid n) HiddenAlready [] (Ok Done) (omega arith)
            (skipped 10 (leb (length table) n) NoRow ((hid n gives HiddenAlready) ∷ []) (Ok Done) (omega arith) e).1).1,
      ))
  serve_ten (Do (Delete (Own n))) e = absurd (omega (arith, (skipped 10 (leb (length own) n) NoRow [] (Ok Done) (omega arith) e).1))
  serve_ten (Do (Insert row)) e =
      let room : List Case = ((leb promised (length own) && full) gives NoRoom) ∷ [] in
      let one = skipped 10 (not (within d (bits row))) BadSet ((leb most_held (length own) gives Full) ∷ room) (Ok Done) (omega arith) e in
      let two = skipped 10 (leb most_held (length own)) Full room (Ok Done) (omega arith) one.1 in
      let three = applied 10 (leb promised (length own) && full) NoRoom (Ok Done) (omega arith) two.1 in (
        not-false (within d (bits row)) one.0,
        leb-true promised (length own) (and_left (leb promised (length own)) full three),
        leb-false most_held (length own) two.0,
        and_right (leb promised (length own)) full three,
      )
  serve_ten (Do Reset) e = absurd (omega arith)
  serve_ten (Ask (Look n)) e =
      let shown : Result Answer Refusal = Ok (Seen (as_row (at (view table hid own) n))) in
      absurd (omega (arith, (skipped 10 (leb (length (view table hid own)) n) NoRow [] shown (omega arith) e).1))
  serve_ten (Ask Count) e = absurd (omega arith)
  serve_ten (Ask Distinct) e =
      let a : Result Answer Refusal = Ok (Listed (length (kept d (view table hid own)))) in
      let long : Bool = ltb most_in_view (length (view table hid own)) in
      absurd (omega (
        arith,
        (skipped 10 long LongView [] a (omega arith)
            (skipped 10 (ltb places (length (view table hid own))) ShortList ((long gives LongView) ∷ []) a (omega arith) e).1).1,
      ))

  pub ten_serve : (c : Call) → proper_call d c ≡ true → promised ≤ length own → length own < most_held → full ≡ true
      → number_of (serve d table full places hid own c) ≡ 10
  unfolding serve proper_call decided
  ten_serve (Do (Delete t)) p lo hi f = absurd (false≢true p)
  ten_serve (Do (Insert row)) p lo hi f = rw (p, lt-leb most_held (length own) hi, le-leb promised (length own) lo, f)
  ten_serve (Do Reset) p lo hi f = absurd (false≢true p)
  ten_serve (Ask q) p lo hi f = absurd (false≢true p)

  -- a desk with fewer than eight rows has its next proper insert accepted
  pub serve_next : (c : Call) → proper_call d c ≡ true → length own < promised → accepted (serve d table full places hid own c) ≡ true
  unfolding serve proper_call decided accepted
  serve_next (Do (Delete t)) p h = absurd (false≢true p)
  serve_next (Do (Insert row)) p h = rw (p, lt-leb most_held (length own) (omega arith), lt-leb promised (length own) h)
  serve_next (Do Reset) p h = absurd (false≢true p)
  serve_next (Ask q) p h = absurd (false≢true p)

  -- one with fewer than 64 has it where some free place is not owed
  pub serve_free : (c : Call) → proper_call d c ≡ true → length own < most_held → full ≡ false → accepted (serve d table full places hid own c) ≡ true
  unfolding serve proper_call decided accepted
  serve_free (Do (Delete t)) p h f = absurd (false≢true p)
  serve_free (Do (Insert row)) p h f = rw (p, lt-leb most_held (length own) h, f, and_false (leb promised (length own)))
  serve_free (Do Reset) p h f = absurd (false≢true p)
  serve_free (Ask q) p h f = absurd (false≢true p)

  -- the other desks enter through `full` alone, and only by refusal 10
  pub serve_but_ten : (c : Call) → number_of (serve d table full places hid own c) ≢ 10
      → serve d table full places hid own c ≡ serve d table false places hid own c
  unfolding serve decided
  serve_but_ten (Do (Delete (Table n))) ne = refl
  serve_but_ten (Do (Delete (Own n))) ne = refl
  serve_but_ten (Do (Insert row)) ne = go (not (within d (bits row))) (leb most_held (length own)) (leb promised (length own)) full ne
    where
      go : (a b c f : Bool) → let tests : Bool
          → Result Answer Refusal = λ x. decided Err ((a gives BadSet) ∷ (b gives Full) ∷ ((c && x) gives NoRoom) ∷ []) (Ok Done) in
          number_of (tests f) ≢ 10 → tests f ≡ tests false
      go true b c f ne = refl
      go false true c f ne = refl
      go false false true true ne = absurd (ne refl)
      go false false true false ne = refl
      go false false false f ne = refl
  serve_but_ten (Do Reset) ne = refl
  serve_but_ten (Ask q) ne = refl
