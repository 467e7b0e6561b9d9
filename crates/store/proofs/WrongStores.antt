-- The wrong stores that the request names do not meet demand 3: what any store that meets it has to tell instead. Assumes nothing.
use Prim.Native.Nat.{ℕ, zero, suc, ◌+◌, ◌^◌, ◌≤◌, ◌<◌}
use mathlib.Core.Path.{◌≡◌, refl, sym, ap, ◌∙◌}
use mathlib.Core.Logic.{◌≢◌, inl, inr}
use mathlib.Core.Bool.{Bool, true, false, not, ◌||◌}
use mathlib.Core.List.{List, [], ◌∷◌, ◌++◌}
use native.Mathlib.Nat.{not-suc-le-zero}
use native.Mathlib.Omega.{arith}
use lib.Dec.{eqb, leb, ltb}
use lib.Pow.{pow-lt}
use lib.ListN.{length, take, drop, length-append, length-take, length-drop}
use borrow.Author.Tests.{lt-ltb, lt-leb, leb-false, eq-eqb, ne_eqb}
use Rattle.std.specs.Prelude.{Result, Ok, Err}
use Rattle.sets.specs.Rows.{width, bits, as_row}
use Rattle.sets.proofs.RowValues.{row-bits}
use Rattle.sets.specs.Limits.{most_held, most_places, promised}
use Rattle.theory.specs.Pairings.{at}
use Rattle.sets.specs.Sets.{below, within}
use Rattle.sets.proofs.Bools.{and_both, not_both}
use Rattle.sheet.specs.Upto.{count_to, those}
use Rattle.sheet.proofs.UptoLaws.{count_yes, count_no, count_ext, length-those, top_or-below}
use Rattle.sheet.proofs.SoundParts.{sound_parts}
use Rattle.refusals.specs.declared.Refusal.{Refusal}
use Rattle.store.specs.declared.Target.TheVariants.{Table, Own}
use Rattle.store.specs.declared.Call.{Call}
use Rattle.store.specs.declared.Call.TheVariants.{Do, Ask}
use Rattle.store.specs.declared.Change.TheVariants.{Delete, Insert}
use Rattle.store.specs.declared.Question.TheVariants.{Look, Count}
use Rattle.refusals.specs.declared.Refusal.TheVariants.{NoDesk, NoRow, HiddenAlready, NoRoom}
use Rattle.store.specs.declared.Answer.{Answer}
use Rattle.store.specs.declared.Answer.TheVariants.{Done, Seen, Counted}
use Rattle.refusals.specs.Cases.{◌gives◌, decided}
use Rattle.refusals.specs.Refusals.{number_of}
use Rattle.store.specs.Answers.{accepted}
use Rattle.store.specs.Desks.{view, serve, Told}
use Rattle.store.specs.Calls.{begun_answer}
use Rattle.store.specs.Promise.{Turn, Store, hidden_in, own_in, member, alone, history, held_by, used_by, owed_by}
use Rattle.store.specs.Promise.{proper_call, proper_insert, Demand3, sheet_on, class_store}
use Rattle.store.proofs.Judging.{good_parts, passed, not_given}
use Rattle.store.proofs.SheetRuns.{reached}
use Rattle.store.proofs.DeskRuns.{used_is, owed_is}
use Rattle.store.proofs.Told.{ten_is, serve_free}
use Rattle.store.proofs.ClassKeeps.{proper_parts, class_keeps}
use Rattle.store.proofs.OnlyStore.{used_alike, owed_alike, same_history}

-- ---- how many rows a view has

-- where one number less passes, the count is one less
one_less : (f g : ℕ → Bool) (n k : ℕ) → k < n → f k ≡ true → g k ≡ false → ((i : ℕ) → i < n → i ≢ k → f i ≡ g i) → count_to f n ≡ suc (count_to g n)
one_less f g zero k h p q same = absurd (not-suc-le-zero h)
one_less f g (suc n) k h p q same = elim (top_or-below n k h) [
  | inl e ↦
      count_yes f n (ap f (sym e) ∙ p)
      ∙ ap suc (count_ext f g n (λ i l. same i (omega arith) (omega arith)) ∙ sym (count_no g n (ap g (sym e) ∙ q)))
  | inr l ↦ go (g n) refl (same n (omega arith) (omega arith)) (one_less f g n k l p q (λ i m. same i (omega arith)))
]
  where
    go : (b : Bool) → g n ≡ b → f n ≡ g n → count_to f n ≡ suc (count_to g n) → count_to f (suc n) ≡ suc (count_to g (suc n))
    go true e fg ih = omega (arith, count_yes f n (fg ∙ e), count_yes g n e)
    go false e fg ih = omega (arith, count_no f n (fg ∙ e), count_no g n e)

length-view : (table : List ℕ) (hid : ℕ → Bool) (own : List ℕ) → length (view table hid own) ≡ count_to (λ i. not (hid i)) (length table) + length own
unfolding view
length-view table hid own =
    length-append (those (λ i. not (hid i)) table (length table)) own
    ∙ ap (λ (x : ℕ). x + length own) (length-those (λ i. not (hid i)) table (length table))

-- ---- turns

abbrev pub turn : ℕ → Call → List ℕ → Turn
turn k c list = record { desk = k; call = c; list = list }

pub within_one : (d : ℕ) → 1 ≤ d → within d (bits (as_row 1)) ≡ true
unfolding within below
within_one d h = rw (row-bits 1 (pow-lt {i = zero} {j = width} (omega arith))) (lt-ltb 1 (2 ^ d) (pow-lt {i = zero} {j = d} h))

module _ {d : ℕ} {table : List ℕ} {desks : ℕ} {tell : Store} (begun : accepted (begun_answer d table desks) ≡ true)
    (keeps : Demand3 d table desks tell) where
  -- desk k's view
  abbrev pub seen : ℕ → List Turn → List ℕ
  seen k past = view table (member (hidden_in (history tell k past))) (own_in (history tell k past))

  -- what is no insert is never refused by 10
  told-alone : (past : List Turn) (t : Turn) → proper_call d t.call ≡ false → tell past t ≡ alone d table desks (history tell t.desk past) t
  told-alone past t off = keeps.as_alone past t (λ e. not_both (proper_parts d desks t ((keeps.no_room past t).0 e).0).1 off)

  abbrev served : ℕ → Call → List ℕ → List Turn → Result Answer Refusal
  served k c list past = serve d table false (length list) (member (hidden_in (history tell k past))) (own_in (history tell k past)) c

  answered-alone : (past : List Turn) (k : ℕ) (c : Call) (list : List ℕ) → k < desks → proper_call d c ≡ false
      → (tell past (turn k c list)).answer ≡ served k c list past
  unfolding alone
  answered-alone past k c list h off =
      ap (λ (a : Told). a.answer) (told-alone past (turn k c list) off)
      ∙ not_given (leb desks k) NoDesk (served k c list past) (lt-leb desks k h)

  -- what is accepted is of a desk that is there
  accepted-alone : (past : List Turn) (k : ℕ) (c : Call) (list : List ℕ) → proper_call d c ≡ false
      → accepted (tell past (turn k c list)).answer ≡ true
      → (k < desks) × (accepted (served k c list past) ≡ true)
  unfolding alone decided
  accepted-alone past k c list off t =
      let same = ap (λ (a : Told). accepted a.answer) (told-alone past (turn k c list) off) in
      let p = passed (leb desks k) NoDesk [] (served k c list past) (sym same ∙ t) in
      (leb-false desks k p.0, p.1)

  pub history_next : (past : List Turn) (k : ℕ) (c : Call) (list : List ℕ) → accepted (tell past (turn k c list)).answer ≡ true
      → history tell k (turn k c list ∷ past) ≡ c ∷ history tell k past
  unfolding history
  history_next past k c list t = rw (eq-eqb k k refl, t)

  -- ---- a store that always refuses: a fresh class accepts the insert of {a}

  pub no_store_always_refuses : ((past : List Turn) (t : Turn) → accepted (tell past t).answer ≡ false) → ⊥
  unfolding proper_insert proper_call history own_in
  no_store_always_refuses refuses =
      let good = good_parts d table desks begun in
      let t = turn zero (Do (Insert (as_row 1))) [] in
      let there = lt-ltb zero desks good.some_desk in
      let proper = and_both (ltb zero desks) (within d (bits (as_row 1))) there (within_one d good.right.some_value) in
      not_both (keeps.next [] t proper (omega arith)) (refuses [] t)

  -- ---- a made-up count: the rows in the view, and its inserts less its removals since the last reset

  pub no_made_up_count : (past : List Turn) (k : ℕ) (list : List ℕ) → k < desks
      → (tell past (turn k (Ask Count) list)).answer ≡ Ok (Counted (length (seen k past)) (held_by tell k past))
  unfolding proper_call serve decided
  no_made_up_count past k list h = answered-alone past k (Ask Count) list h refl

  -- ---- a delete that answers yes and hides nothing

  delete_has : (past : List Turn) (k n : ℕ) (list : List ℕ) → accepted (tell past (turn k (Do (Delete (Table n))) list)).answer ≡ true
      → (k < desks) × (n < length table) × (member (hidden_in (history tell k past)) n ≡ false)
  unfolding proper_call serve
  delete_has past k n list t =
      let p = accepted-alone past k (Do (Delete (Table n))) list refl t in
      let hid = member (hidden_in (history tell k past)) n in
      let q = passed (leb (length table) n) NoRow ((hid gives HiddenAlready) ∷ []) (Ok Done) p.1 in
      (p.0, leb-false (length table) n q.0, (passed hid HiddenAlready [] (Ok Done) q.1).0)

  one_row_less : (past : List Turn) (k n : ℕ) (list : List ℕ) → accepted (tell past (turn k (Do (Delete (Table n))) list)).answer ≡ true
      → length (seen k past) ≡ suc (length (seen k (turn k (Do (Delete (Table n))) list ∷ past)))
  unfolding hidden_in own_in member
  one_row_less past k n list t =
      let h = history tell k past in
      let q = delete_has past k n list t in
      let hid = member (hidden_in h) in
      let fewer = one_less (λ i. not (hid i)) (λ i. not (eqb n i || hid i)) (length table) n q.1 (rw q.2) (rw (eq-eqb n n refl))
      (λ i l ne. rw (ne_eqb n i (λ e. ne (sym e)))) in
      rw (history_next past k (Do (Delete (Table n))) list t)
      (omega (arith, length-view table hid (own_in h), length-view table (λ i. eqb n i || hid i) (own_in h)))

  -- after an accepted table delete, whatever came before, the desk counts one row less, and the row can't be deleted again
  pub no_delete_hides_nothing : (past : List Turn) (k n : ℕ) (list : List ℕ)
      → let t = turn k (Do (Delete (Table n))) list in accepted (tell past t).answer ≡ true
      → (list' : List ℕ) → (r : ℕ) × ((tell past (turn k (Ask Count) list')).answer ≡ Ok (Counted (suc r) (held_by tell k past)))
      × ((tell (t ∷ past) (turn k (Ask Count) list')).answer ≡ Ok (Counted r (held_by tell k past)))
      × ((tell (t ∷ past) (turn k (Do (Delete (Table n))) list')).answer ≡ Err HiddenAlready)
  unfolding serve decided proper_call hidden_in own_in member
  no_delete_hides_nothing past k n list t list' =
      let after = turn k (Do (Delete (Table n))) list ∷ past in
      let q = delete_has past k n list t in
      let next = history_next past k (Do (Delete (Table n))) list t in (
        length (seen k after),
        no_made_up_count past k list' q.0 ∙ ap (λ (r : ℕ). Ok (Counted r (held_by tell k past))) (one_row_less past k n list t),
        no_made_up_count after k list' q.0 ∙ ap (λ (h : List Call). Ok (Counted (length (seen k after)) (length (own_in h)))) next,
        answered-alone after k (Do (Delete (Table n))) list' q.0 refl ∙ rw (next, lt-leb (length table) n q.1, eq-eqb n n refl),
      )

  -- the same of an own row
  pub no_own_delete_takes_nothing : (past : List Turn) (k n : ℕ) (list : List ℕ)
      → let t = turn k (Do (Delete (Own n))) list in accepted (tell past t).answer ≡ true
      → (list' : List ℕ)
      → (r m : ℕ) × ((tell past (turn k (Ask Count) list')).answer ≡ Ok (Counted (suc r) (suc m)))
      × ((tell (t ∷ past) (turn k (Ask Count) list')).answer ≡ Ok (Counted r m))
  unfolding serve proper_call hidden_in own_in
  no_own_delete_takes_nothing past k n list t list' =
      let after = turn k (Do (Delete (Own n))) list ∷ past in
      let h = history tell k past in
      let p = accepted-alone past k (Do (Delete (Own n))) list refl t in
      let there = leb-false (length (own_in h)) n (passed (leb (length (own_in h)) n) NoRow [] (Ok Done) p.1).0 in
      let next = history_next past k (Do (Delete (Own n))) list t in
      let rest = take n (own_in h) ++ drop (suc n) (own_in h) in
      let held : length (own_in h) ≡ suc (length rest) =
      omega (arith, length-append (take n (own_in h)) (drop (suc n) (own_in h)), length-take n (own_in h), length-drop (suc n) (own_in h)) in
      let hid = member (hidden_in h) in
      let rows : length (view table hid (own_in h)) ≡ suc (length (view table hid rest)) =
      omega (arith, length-view table hid (own_in h), length-view table hid rest) in (
        length (view table hid rest),
        length rest,
        no_made_up_count past k list' p.0 ∙ (λ i. Ok (Counted (rows i) (held i))),
        no_made_up_count after k list' p.0
            ∙ ap (λ (l : List Call). Ok (Counted (length (view table (member (hidden_in l)) (own_in l))) (length (own_in l)))) next,
      )

  -- ---- a delete that only honours its first call: whatever the desk deleted before, a row that it has not hidden is hidden

  delete_done : (past : List Turn) (k n : ℕ) (list : List ℕ) → k < desks → n < length table → member (hidden_in (history tell k past)) n ≡ false
      → (tell past (turn k (Do (Delete (Table n))) list)).answer ≡ Ok Done
  unfolding serve decided proper_call
  delete_done past k n list h l e = answered-alone past k (Do (Delete (Table n))) list h refl ∙ rw (lt-leb (length table) n l, e)

  pub no_delete_honours_its_first_call_only : (past : List Turn) (k n m : ℕ) (list list' : List ℕ) → let t = turn k (Do (Delete (Table n))) list in
      accepted (tell past t).answer ≡ true → m < length table → m ≢ n → member (hidden_in (history tell k past)) m ≡ false
      → let t' = turn k (Do (Delete (Table m))) list' in
      ((tell (t ∷ past) t').answer ≡ Ok Done) × (length (seen k past) ≡ suc (suc (length (seen k (t' ∷ t ∷ past)))))
  unfolding hidden_in member accepted
  no_delete_honours_its_first_call_only past k n m list list' t l ne e =
      let after = turn k (Do (Delete (Table n))) list ∷ past in
      let still : member (hidden_in (history tell k after)) m ≡ false =
      rw (history_next past k (Do (Delete (Table n))) list t, ne_eqb n m (λ q. ne (sym q))) e in
      let done = delete_done after k m list' (delete_has past k n list t).0 l still in
      (done, one_row_less past k n list t ∙ ap suc (one_row_less after k m list' (ap accepted done)))

  -- ---- an insert that looks at the 512 places alone: what is owed to desks with fewer than eight rows is kept for them

  pub no_insert_takes_what_is_owed : (past : List Turn) (t : Turn) → proper_insert d desks t ≡ true → promised ≤ held_by tell t.desk past
      → held_by tell t.desk past < most_held
      → used_by tell desks past + owed_by tell desks past ≡ most_places → tell past t ≡ record { answer = Err NoRoom; list = t.list }
  no_insert_takes_what_is_owed past t p lo hi full =
      let ten = (keeps.no_room past t).1 (p, lo, hi, full) in
      λ i. record { answer = ten_is (tell past t).answer ten i; list = keeps.no_room_list past t ten i }

  -- ---- a freed place that is lost: 'A freed place can be used by the next insert of any desk that the rules allow', whoever freed it

  pub no_freed_place_is_lost : (past : List Turn) (t : Turn) → proper_insert d desks t ≡ true → held_by tell t.desk past < most_held
      → used_by tell desks past + owed_by tell desks past < most_places → accepted (tell past t).answer ≡ true
  unfolding alone decided
  no_freed_place_is_lost past t p few room =
      let not-ten : number_of (tell past t).answer ≢ 10 = λ e. absurd (omega (arith, ((keeps.no_room past t).0 e).3)) in
      let h = history tell t.desk past in
      let q = proper_parts d desks t p in
      ap (λ (a : Told). accepted a.answer) (keeps.as_alone past t not-ten)
      ∙ (rw (lt-leb desks t.desk q.0)
      (serve_free d table false (length t.list) (member (hidden_in h)) (own_in h) t.call q.1 few refl))

  pub owed_is_kept : (past : List Turn) → used_by tell desks past + owed_by tell desks past ≤ most_places
  owed_is_kept past =
      let good = good_parts d table desks begun in
      let ours = class_store d table desks in
      let same = same_history keeps (class_keeps d table desks begun) past in
      omega (
        arith,
        used_alike tell ours past same desks,
        owed_alike tell ours past same desks,
        used_is good past,
        owed_is good past,
        (sound_parts (sheet_on d table desks past) (reached good past).stays-sound).promise,
      )

  -- ---- a look that shows where rows sit in the class list: it shows the desk's view, and what the others did doesn't tell on it

  pub no_look_shows_the_class_list : (past : List Turn) (k n : ℕ) (list : List ℕ) → k < desks → n < length (seen k past)
      → (tell past (turn k (Ask (Look n)) list)).answer ≡ Ok (Seen (as_row (at (seen k past) n)))
  unfolding serve decided proper_call
  no_look_shows_the_class_list past k n list h l = answered-alone past k (Ask (Look n)) list h refl ∙ rw (lt-leb (length (seen k past)) n l)

  pub no_desk_tells_on_another : (past past' : List Turn) (t : Turn) → proper_call d t.call ≡ false
      → history tell t.desk past ≡ history tell t.desk past'
      → tell past t ≡ tell past' t
  no_desk_tells_on_another past past' t off same =
      told-alone past t off ∙ ap (λ (h : List Call). alone d table desks h t) same ∙ sym (told-alone past' t off)
