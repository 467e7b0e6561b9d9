-- From what each part of a desk's call answers to what the desk is told. Assumes nothing.
use Prim.Native.Nat.{ℕ, ◌+◌, ◌-◌, ◌*◌, ◌≤◌}
use mathlib.Core.Path.{◌≡◌, refl, sym, ◌∙◌}
use mathlib.Core.Bool.{Bool, true, false, cond}
use mathlib.Core.List.{List, []}
use native.Mathlib.Omega.{arith}
use lib.Dec.{eqb}
use lib.ListN.{length, take}
use Rattle.std.specs.Prelude.{Result, Ok, Err}
use Rattle.sets.specs.Limits.{most_places, promised}
use Rattle.sets.specs.declared.Row.{Row}
use Rattle.sets.specs.Rows.{row_words, bits, rows_of}
use Rattle.sets.proofs.LentRows.{rows_take}
use Rattle.theory.specs.Pairings.{at}
use Rattle.refusals.specs.Cases.{decided}
use Rattle.sheet.specs.declared.Sheet.{Sheet}
use Rattle.sheet.specs.Upto.{sum_to}
use Rattle.sheet.specs.Sheets.{own, hides}
use Rattle.refusals.specs.declared.Refusal.{Refusal}
use Rattle.store.specs.declared.Target.TheVariants.{Own}
use Rattle.store.specs.declared.Call.{Call}
use Rattle.store.specs.declared.Call.TheVariants.{Do, Ask}
use Rattle.store.specs.declared.Change.{Change}
use Rattle.store.specs.declared.Change.TheVariants.{Delete, Insert}
use Rattle.store.specs.declared.Question.{Question}
use Rattle.store.specs.declared.Answer.{Answer}
use Rattle.store.specs.declared.Answer.TheVariants.{Done}
use Rattle.store.specs.Answers.{accepted}
use Rattle.store.specs.Desks.{row_cases, insert_cases, change_cases, view, serve, written, list_after}
use Rattle.store.specs.Code.Views.{Viewed}
use Rattle.store.specs.Calls.{crowded}
use Rattle.store.specs.Code.Serving.{Trusted, ChangeJudged, Replied, Served}
use Rattle.refusals.proofs.Outcomes.{stands, refuses}
use Rattle.refusals.proofs.TablesJudged.{judged_right, judged_refused}
use Rattle.store.proofs.Trusting.{limits}

-- where nothing is written the list stays
pub nothing_written : (a : Result Answer Refusal) (list : List ℕ) → list ≡ list_after [] a list
unfolding list_after
nothing_written a list = go (accepted a)
  where
    go : (b : Bool) → list ≡ cond b list list
    go true = refl
    go false = refl

-- ---- a view in words

module _ {table : List ℕ} {hid : ℕ → Bool} {own : List ℕ} {m : ℕ} (words : List ℕ) (seen : Viewed table hid own m (rows_of words)) where
  pub view_fits : m ≤ length (rows_of words)
  view_fits = omega (arith, seen.most, seen.long)

  pub view-words : rows_of (take (m * row_words) words) ≡ view table hid own
  view-words = rows_take m words view_fits ∙ seen.is

module _ {d : ℕ} {table : List ℕ} {s : Sheet} {counts : List ℕ} {k : ℕ} (T : Trusted d table s counts k) where
  pub mine : at counts k ≡ length (own s k)
  mine = (limits d table s counts k T).mine

  -- ---- a change, by the counts

  pub judged-take : (n : ℕ) (r : Result (Unit {0}) Refusal) → r ≡ decided Err (row_cases (at counts k) n) (Ok tt)
      → ChangeJudged d table s k (Delete (Own n)) r
  judged-take n r a = rw (sym mine) a

  pub judged_insert : (row : Row) (owes : ℕ) → owes ≡ sum_to (λ j. promised - at counts j) s.desks → (r : Result (Unit {0}) Refusal)
      → r ≡ decided Err (insert_cases d (eqb (s.used + owes) most_places) (at counts k) (bits row)) (Ok tt) → ChangeJudged d table s k (Insert row) r
  unfolding crowded
  judged_insert row owes o r a = rw (sym mine, sym (limits d table s counts k T).owes, sym o) a

  -- ---- a call

  pub served_change : (old : List ℕ) (c : Call) (change : Change) → c ≡ Do change → ChangeJudged d table s k change (Ok tt)
      → Served d table s k c old (Ok Done) old
  unfolding serve written
  served_change old c change e a =
      let cases = change_cases d table (crowded s) (hides s.marks k) (own s k) change in
      rw e record { answer_is = sym (stands Err cases (judged_right cases (sym a)) (Ok Done)); list_is = nothing_written (Ok Done) old }

  pub refused_change : (old : List ℕ) (c : Call) (change : Change) → c ≡ Do change → (r : Refusal) → ChangeJudged d table s k change (Err r)
      → Served d table s k c old (Err r) old
  unfolding serve written
  refused_change old c change e r a =
      let cases = change_cases d table (crowded s) (hides s.marks k) (own s k) change in
      rw e record { answer_is = sym (refuses Err cases r (judged_refused cases r (sym a)) (Ok Done)); list_is = nothing_written (Err r) old }

  pub served_question : (old : List ℕ) (c : Call) (q : Question) → c ≡ Ask q → (m : ℕ) (words : List ℕ)
      → Viewed table (hides s.marks k) (own s k) m (rows_of words) → (r : Result Answer Refusal) (list : List ℕ)
      → Replied d (rows_of (take (m * row_words) words)) (at counts k) q old r list → Served d table s k c old r list
  unfolding serve written
  served_question old c q e m words seen r list R =
      let told : Replied d (view table (hides s.marks k) (own s k)) (length (own s k)) q old r list =
      rw (sym (view-words words seen), sym mine) R in
      rw e record { answer_is = told.answer_is; list_is = told.list_is }
