-- Apart from refusal 10, a desk is told what it would be told had it sat alone with its accepted calls. Assumes nothing.
use Prim.Native.Nat.{ℕ, ◌-◌, ◌≤◌}
use mathlib.Core.Path.{◌≡◌, refl, sym, ap, ◌∙◌}
use mathlib.Core.Logic.{◌≢◌}
use mathlib.Core.Bool.{Bool, true, false, cond, ◌&&◌, false≢true}
use mathlib.Core.List.{List, [], ◌∷◌}
use native.Mathlib.Omega.{arith}
use lib.Dec.{eqb, ltb}
use lib.ListN.{length}
use borrow.Author.Tests.{ltb-true, eqb-true, ne_eqb}
use Rattle.std.specs.Prelude.{Result}
use Rattle.sets.specs.Limits.{most_desks, promised}
use Rattle.sets.proofs.Bools.{and_left}
use Rattle.sheet.proofs.UptoLaws.{sum_zero, sum_but_one, sum_most}
use Rattle.refusals.specs.declared.Refusal.{Refusal}
use Rattle.store.specs.declared.Call.{Call}
use Rattle.store.specs.declared.Answer.{Answer}
use Rattle.refusals.specs.Refusals.{number_of}
use Rattle.store.specs.Answers.{accepted}
use Rattle.store.specs.Calls.{begun_answer}
use Rattle.store.specs.Promise.{Turn, Store, own_in, alone, history, mine, held_by, proper_call, proper_insert, Demand3, class_store}
use Rattle.store.proofs.Judging.{good_parts}
use Rattle.store.proofs.Told.{ten_is}
use Rattle.store.proofs.ClassKeeps.{class_keeps}

accepted-not_ten : (a : Result Answer Refusal) → accepted a ≡ true → number_of a ≢ 10
unfolding accepted
accepted-not_ten a t e = false≢true (sym (ap accepted (ten_is a e)) ∙ t)

-- what the other desks have in a run of desk k's turns
none_of_others : (tell : Store) (j k : ℕ) → j ≢ k → (past : List Turn) → history tell j (mine tell k past) ≡ []
unfolding mine history
none_of_others tell j k ne [] = refl
none_of_others tell j k ne (t ∷ past) = go (eqb t.desk k) refl (accepted (tell past t).answer) (none_of_others tell j k ne past)
  where
    go : (b : Bool) → eqb t.desk k ≡ b → (a : Bool) → history tell j (mine tell k past) ≡ []
        → history tell j (cond (b && a) (t ∷ mine tell k past) (mine tell k past)) ≡ []
    go true e true ih = rw (ne_eqb t.desk j (λ q. ne (sym q ∙ eqb-true t.desk k e))) ih
    go true e false ih = ih
    go false e a ih = ih

module _ {d : ℕ} {table : List ℕ} {desks : ℕ} {tell : Store} (keeps : Demand3 d table desks tell) where
  -- two runs in which the desk had the same calls accepted tell it the same, unless 10 is given in one of them
  pub isolated : (past past' : List Turn) (t : Turn) → history tell t.desk past ≡ history tell t.desk past'
      → number_of (tell past t).answer ≢ 10 → number_of (tell past' t).answer ≢ 10 → tell past t ≡ tell past' t
  isolated past past' t same ne ne' =
      keeps.as_alone past t ne ∙ ap (λ (h : List Call). alone d table desks h t) same ∙ sym (keeps.as_alone past' t ne')

  module _ (few : desks ≤ most_desks) where
    -- a desk that sits alone is never refused by 10: 64 rows and 8 for each of 32 desks are fewer than 512
    pub alone-has_room : (past : List Turn) (t : Turn) (k : ℕ) → t.desk ≡ k → number_of (tell (mine tell k past) t).answer ≢ 10
    unfolding own_in proper_insert
    alone-has_room past t k me e =
        let p = mine tell k past in
        let g = (keeps.no_room p t).0 e in
        let there = ltb-true t.desk desks (and_left (ltb t.desk desks) (proper_call d t.call) g.0) in
        let others : (j : ℕ) → j ≢ k → held_by tell j p ≡ 0 = λ j ne. ap (λ (h : List Call). length (own_in h)) (none_of_others tell j k ne past) in
        let used = sum_but_one (λ j. held_by tell j p) (λ j. 0) desks k (omega arith) (λ j l ne. others j ne) in
        let owed = sum_most (λ j. promised - held_by tell j p) desks promised (λ j l. omega arith) in
        omega (arith, keeps.desk_limit p k, sum_zero (λ j. 0) desks (λ j l. refl), g.3)

    same_history : (k : ℕ) (past : List Turn) → history tell k (mine tell k past) ≡ history tell k past
    unfolding mine history
    same_history k [] = refl
    same_history k (t ∷ past) = go (eqb t.desk k) refl (accepted (tell past t).answer) refl (same_history k past)
      where
        go : (b : Bool) → eqb t.desk k ≡ b → (a : Bool) → accepted (tell past t).answer ≡ a
            → history tell k (mine tell k past) ≡ history tell k past
            → history tell k (cond (b && a) (t ∷ mine tell k past) (mine tell k past)) ≡ cond (b && a) (t.call ∷ history tell k past)
            (history tell k past)
        go true e true q ih =
            let me : t.desk ≡ k = eqb-true t.desk k e in
            let like : history tell t.desk past ≡ history tell t.desk (mine tell k past) = rw me (sym ih) in
            let same = isolated past (mine tell k past) t like (accepted-not_ten (tell past t).answer q) (alone-has_room past t k me) in
            rw (e, ← same, q, ih)
        go true e false q ih = ih
        go false e a q ih = ih

    pub as_if_alone : (past : List Turn) (t : Turn) → number_of (tell past t).answer ≢ 10 → tell past t ≡ tell (mine tell t.desk past) t
    as_if_alone past t ne = isolated past (mine tell t.desk past) t (sym (same_history t.desk past)) ne (alone-has_room past t t.desk refl)

-- our store, then, tells a desk what it would tell it in a class where nobody else had called and none of its own calls was refused
pub class_as_if_alone : (d : ℕ) (table : List ℕ) (desks : ℕ) → accepted (begun_answer d table desks) ≡ true
    → let tell : Store = class_store d table desks in
    (past : List Turn) (t : Turn) → number_of (tell past t).answer ≢ 10 → tell past t ≡ tell (mine tell t.desk past) t
class_as_if_alone d table desks begun = as_if_alone (class_keeps d table desks begun) (good_parts d table desks begun).few_desks
