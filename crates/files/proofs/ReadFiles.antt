-- What is known of a file that is judged: one that is read has its d and T, its rows and no more; and what is answered once the list is looked at.
-- Assumes nothing.
use Prim.Native.Nat.{ℕ, ◌+◌, ◌*◌, ◌≤◌}
use mathlib.Core.Path.{◌≡◌, sym, ap, ◌∙◌}
use mathlib.Core.Bool.{cond}
use mathlib.Core.List.{List}
use native.Mathlib.Omega.{arith}
use lib.Dec.{ltb}
use lib.ListN.{length}
use Rattle.std.specs.Prelude.{Result, Ok, Err}
use Rattle.sets.specs.Rows.{width}
use Rattle.refusals.specs.declared.Refusal.{Refusal}
use Rattle.refusals.specs.declared.Refusal.TheVariants.{FewPlaces}
use Rattle.refusals.specs.Cases.{decided}
use Rattle.refusals.proofs.Outcomes.{NoneApplies, none_first, stands, stands_first, refuses_first, not_refused, refusing, not_ok, same_err}
use Rattle.files.specs.Files.{values_in, count_in}
use Rattle.files.specs.FileCases.{file_cases, place_cases, read_cases}
use Rattle.files.specs.Reading.{values_of, count_of, judged, read_answer}
use Rattle.files.proofs.FilesJudged.{FileRight, file_right}

module _ (file : List ℕ) where
  abbrev accepts : Result (ℕ × ℕ) Refusal
  accepts = Ok (values_in file, count_in file)

  -- where it is read, no case applies
  read_none : (d t : ℕ) → judged file ≡ Ok (d, t) → NoneApplies (file_cases file) × (accepts ≡ Ok (d, t))
  unfolding judged
  read_none d t e = not_refused Err accepts (Ok (d, t)) (not_ok (d, t)) (file_cases file) e

  -- its d, which a row can hold, and T, its rows and no more, and all else that is asked of it
  pub record Readable (d t : ℕ) : Type 0 where
    pub values : d ≡ values_in file
    pub narrow : d ≤ width
    pub count : t ≡ count_in file
    pub whole : length file ≡ 8 + 8 * t
    pub right : FileRight file

  pub readable : (d t : ℕ) → judged file ≡ Ok (d, t) → Readable d t
  readable d t e =
      let none = read_none d t e in
      let right = file_right file none.0 in
      let count : t ≡ count_in file = sym (ap count_of none.1) in
      let values : d ≡ values_in file = sym (ap values_of none.1) in
      record {
        values = values;
        narrow = omega (arith, values, right.front.values);
        count = count;
        whole = omega (arith, right.whole, count);
        right = right;
      }

  module _ (places : ℕ) where
    -- the list is looked at where the file is read
    pub then_places : (d t : ℕ) → judged file ≡ Ok (d, t) → read_answer file places ≡ cond (ltb places t) (Err FewPlaces) (Ok (d, t))
    unfolding read_answer decided
    then_places d t e =
        let none = read_none d t e in
        stands_first Err (file_cases file) (place_cases file places) none.0 accepts
        ∙ (λ i. cond (ltb places (count_of (none.1 i))) (Err FewPlaces) (none.1 i))

    -- so a file that is answered as read is judged so
    pub read_judged : (d t : ℕ) → read_answer file places ≡ Ok (d, t) → judged file ≡ Ok (d, t)
    unfolding read_answer judged
    read_judged d t e =
        let none = not_refused Err accepts (Ok (d, t)) (not_ok (d, t)) (read_cases file places) e in
        stands Err (file_cases file) (none_first (file_cases file) (place_cases file places) none.0) accepts ∙ none.1

    pub still_refused : (r : Refusal) → judged file ≡ Err r → read_answer file places ≡ Err r
    unfolding judged read_answer
    still_refused r e =
        let given = refusing Err accepts (not_ok (values_in file, count_in file)) same_err (file_cases file) r e in
        refuses_first Err (file_cases file) (place_cases file places) r given accepts
