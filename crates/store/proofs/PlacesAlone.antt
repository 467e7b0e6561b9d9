-- A wrong store of the request, 'refusing an insert only when the 512 places are used, with no thought for places owed', does not meet demand 3.
-- Assumes nothing.
use Prim.Native.Nat.{ℕ, zero, suc, ◌+◌, ◌-◌, ◌*◌, ◌≤◌, ◌<◌}
use mathlib.Core.Path.{◌≡◌, refl, sym, ap, ◌∙◌}
use mathlib.Core.Logic.{◌≢◌, inl, inr}
use mathlib.Core.Bool.{true, and-false}
use mathlib.Core.List.{List, [], ◌∷◌}
use native.Mathlib.Decide.{dec_lt}
use native.Mathlib.Omega.{arith}
use lib.Dec.{leb}
use lib.ListN.{length, length-append}
use borrow.Author.Tests.{lt-leb, ne_eqb}
use Rattle.sets.specs.Rows.{bits, as_row}
use Rattle.sets.specs.Limits.{most_held, most_places, promised}
use Rattle.sheet.specs.Upto.{sum_to}
use Rattle.sheet.proofs.UptoLaws.{top_or-below, sum_part}
use Rattle.store.specs.declared.Call.{Call}
use Rattle.store.specs.declared.Call.TheVariants.{Do}
use Rattle.store.specs.declared.Change.TheVariants.{Insert}
use Rattle.refusals.specs.Cases.{decided}
use Rattle.refusals.specs.Refusals.{number_of}
use Rattle.store.specs.Answers.{accepted}
use Rattle.store.specs.Desks.{serve, Told}
use Rattle.store.specs.Calls.{begun_answer}
use Rattle.store.specs.Promise.{Turn, Store, own_in, alone, history, held_by, used_by, Demand3}
use Rattle.store.proofs.Judging.{good_parts}
use Rattle.store.proofs.WrongStores.{turn, within_one, history_next, owed_is_kept}

-- a sum whose first m parts are at least c each
sum_least : (g : ℕ → ℕ) (c n m : ℕ) → m ≤ n → ((i : ℕ) → i < m → c ≤ g i) → m * c ≤ sum_to g n
unfolding sum_to
sum_least g c zero m h p = let none : m ≡ zero = omega arith in rw none (omega arith)
sum_least g c (suc n) m h p = elim (dec_lt n m) [
  | yes l ↦
      (let all : m ≡ suc n = omega arith in
      rw all (omega (arith, sum_least g c n n (omega arith) (λ i k. p i (omega arith)), p n l)))
  | no l ↦ omega (arith, sum_least g c n m (omega arith) p)
]

-- ---- a run in which desks 0 to j - 1 ask for 64 rows each

abbrev asking : ℕ → Turn
asking k = turn k (Do (Insert (as_row 1))) []

unfoldable asked : ℕ → ℕ → List Turn → List Turn
asked k zero past = past
asked k (suc n) past = asking k ∷ asked k n past

unfoldable run : ℕ → List Turn
run zero = []
run (suc j) = asked j most_held (run j)

module _ {d : ℕ} {table : List ℕ} {desks : ℕ} {tell : Store} (begun : accepted (begun_answer d table desks) ≡ true)
    (keeps : Demand3 d table desks tell) where
  -- another desk's rows stay
  others : (j k n : ℕ) → j ≢ k → (past : List Turn) → history tell j (asked k n past) ≡ history tell j past
  unfolding asked history
  others j k zero ne past = refl
  others j k (suc n) ne past = rw (ne_eqb k j (λ e. ne (sym e))) (others j k n ne past)

  others_held : (j k n : ℕ) → j ≢ k → (past : List Turn) → held_by tell j (asked k n past) ≡ held_by tell j past
  others_held j k n ne past = ap (λ (l : List Call). length (own_in l)) (others j k n ne past)

  module _ (nine : 9 ≤ desks) (wrong : (past : List Turn) (t : Turn) → number_of (tell past t).answer ≡ 10 → used_by tell desks past ≡ most_places)
    where
      -- while desk 8 has no rows, eight places are owed to it, so no insert is refused by 10
      accepts : (past : List Turn) (k : ℕ) → k < 8 → held_by tell 8 past ≡ zero → held_by tell k past < most_held
          → accepted (tell past (asking k)).answer ≡ true
      unfolding alone decided serve accepted
      accepts past k h none room =
          let owed = sum_part (λ j. promised - held_by tell j past) desks 8 (omega arith) in
          let told = keeps.as_alone past (asking k) (λ e. omega (arith, wrong past (asking k) e, owed_is_kept begun keeps past)) in
          ap (λ (a : Told). accepted a.answer) told
          ∙ rw (
            lt-leb desks k (omega arith),
            within_one d (good_parts d table desks begun).right.some_value,
            lt-leb most_held (held_by tell k past) room,
            and-false (leb 8 (held_by tell k past)),
          )

      gets : (k n : ℕ) → k < 8 → (past : List Turn) → held_by tell 8 past ≡ zero → held_by tell k past + n ≤ most_held
          → held_by tell k (asked k n past) ≡ held_by tell k past + n
      unfolding asked own_in
      gets k zero h past none room = omega arith
      gets k (suc n) h past none room =
          let before = asked k n past in
          let ih = gets k n h past none (omega arith) in
          let empty = others_held 8 k n (omega arith) past in
          let next = history_next begun keeps before k (Do (Insert (as_row 1))) [] (accepts before k h (omega arith) (omega arith)) in
          omega (arith, ap (λ (l : List Call). length (own_in l)) next, length-append (own_in (history tell k before)) (bits (as_row 1) ∷ []))

      held_in : (j : ℕ) → j ≤ 8 → ((i : ℕ) → i < j → held_by tell i (run j) ≡ most_held) × ((i : ℕ) → j ≤ i → held_by tell i (run j) ≡ zero)
      unfolding run history own_in
      held_in zero h = (λ i l. absurd (omega arith), λ i l. refl)
      held_in (suc j) h =
          let before = held_in j (omega arith) in
          let same : (i : ℕ) → i ≢ j → held_by tell i (run (suc j)) ≡ held_by tell i (run j) = λ i ne. others_held i j most_held ne (run j) in
          let now = before.1 j (omega arith) in
          let mine = gets j most_held (omega arith) (run j) (before.1 8 (omega arith)) (omega arith) in (
            λ i l. elim (top_or-below j i l) [
              | inl e ↦ rw e (omega arith)
              | inr m ↦ same i (omega arith) ∙ before.0 i m
            ],
            λ i l. same i (omega arith) ∙ before.1 i (omega arith),
          )

      pub no_insert_looks_at_the_places_alone : ⊥
      no_insert_looks_at_the_places_alone =
          let held = held_in 8 (omega arith) in
          let used = sum_least (λ i. held_by tell i (run 8)) most_held desks 8 (omega arith) (λ i l. omega (arith, held.0 i l)) in
          let owed = sum_part (λ i. promised - held_by tell i (run 8)) desks 8 (omega arith) in
          omega (arith, held.1 8 (omega arith), owed_is_kept begun keeps (run 8))
