-- Any run of a reader that the contracts of `Reader::new` and `Reader::next` admit hands out the rows of `handed_out`,
-- of which `ReaderTurns` shows that they are the file's, in turn, and then no more. Assumes nothing.
use Prim.Native.Nat.{ℕ, zero, suc}
use mathlib.Core.Path.{◌≡◌, refl, ap, ◌∙◌}
use mathlib.Core.List.{List, [], ◌∷◌}
use lib.ListN.{length}
use contract.Lifetimes.{Lfts}
use denote.Triple.Entry.{Args}
use denote.Triple.Clauses.{AtExit}
use Rattle.std.specs.Prelude.{Option}
use Rattle.sets.specs.declared.Row.{Row}
use Rattle.files.specs.declared.reader.Reader.{Reader}
use Rattle.files.specs.RowByRow.{step_at, cursor, handed_out, moved}
use Rattle.files.proofs.Determined.{Makes, Hands}
use Rattle.files.specs.contracts.reader.Reader.new as new
use Rattle.files.specs.contracts.reader.Reader.next as next

-- a reader that `Reader::new` may make of a lent file
pub record Made (file : List ℕ) (r : Reader) : Type 0 where
  pub κs : Lfts 1
  pub args : Args new.signature κs
  pub exit : AtExit new.ended κs
  pub admitted : Makes κs args r exit
  pub lends : args.0.now ≡ file

-- what may come of `Reader::next` on a reader: a row, and the reader as it then is
pub record Stepped (r : Reader) (x : Option Row) (r' : Reader) : Type 0 where
  pub κs : Lfts 2
  pub args : Args next.signature κs
  pub exit : AtExit next.ended κs
  pub admitted : Hands κs args x exit
  pub before : args.0.now ≡ r
  pub after : r' ≡ exit.0.now

-- the rows handed out so far, the last first
pub data Handing (file : List ℕ) : List (Option Row) → Reader → Type 0 where
  made : {r : Reader} → Made file r → Handing file [] r
  stepped : {said : List (Option Row)} {r r' : Reader} {x : Option Row} → Handing file said r → Stepped r x r' → Handing file (x ∷ said) r'

unfoldable pub first_rows : List ℕ → ℕ → List (Option Row)
first_rows file zero = []
first_rows file (suc n) = handed_out file n ∷ first_rows file n

pub record Standing (file : List ℕ) (said : List (Option Row)) (r : Reader) : Type 0 where
  pub rows : said ≡ first_rows file (length said)
  pub over : r.file.now ≡ file
  pub place : r.at ≡ cursor file (length said)

pub run_hands_out : {file : List ℕ} {said : List (Option Row)} {r : Reader} → Handing file said r → Standing file said r
unfolding first_rows cursor
run_hands_out (made m) = record { rows = refl; over = ap (λ x. x.now) m.admitted.0 ∙ m.lends; place = m.admitted.1 }
run_hands_out {file} (stepped {said} {r} {r'} {x} run s) =
    let was = run_hands_out run in
    let row : x ≡ (step_at r.file.now r.at).row = s.admitted.0 ∙ ap (λ (q : Reader). (step_at q.file.now q.at).row) s.before in
    let next : r' ≡ moved r = s.after ∙ s.admitted.1 ∙ ap moved s.before in
    record {
      rows = λ i. (row ∙ (λ j. (step_at (was.over j) (was.place j)).row)) i ∷ was.rows i;
      over = ap (λ (q : Reader). q.file.now) next ∙ was.over;
      place = ap (λ (q : Reader). q.at) next ∙ (λ i. (step_at (was.over i) (was.place i)).next);
    }
