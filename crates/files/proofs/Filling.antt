-- Words whose front is filled, row by row. Assumes nothing.
use Prim.Native.Nat.{ℕ, zero, suc, ◌+◌, ◌*◌, ◌<◌}
use mathlib.Core.Path.{◌≡◌, refl, sym, ap, ◌∙◌, subst}
use mathlib.Core.List.{List, [], ◌∷◌, ◌++◌}
use native.Mathlib.Nat.{zero-mul, suc-mul}
use native.Mathlib.Numerals.{add-one}
use lib.ListN.{length, take, drop, take-append-drop}
use lib.Seq.{drop-drop}
use Rattle.sets.specs.Rows.{row_words, rows_of, in_words, put_row}
use Rattle.sets.proofs.LentRows.{rows_as_long, put_length, put_front, put_rest, words_append}
use Rattle.files.specs.Rows.{list_to}

-- the first n of f stand at the front, and the rest is as it was
pub record Filling (f : ℕ → ℕ) (old words : List ℕ) (n : ℕ) : Type 0 where
  pub front : take (n * row_words) words ≡ in_words (list_to f n)
  pub rest : drop (n * row_words) words ≡ drop (n * row_words) old
  pub long : length words ≡ length old

module _ (f : ℕ → ℕ) (old : List ℕ) where
  pub filling_start : Filling f old old zero
  unfolding list_to in_words
  filling_start = record { front = ap (λ (k : ℕ). take k old) (zero-mul row_words); rest = refl; long = refl }

  module _ (words : List ℕ) (n : ℕ) (F : Filling f old words n) where
    later : (l : List ℕ) → drop (suc n * row_words) l ≡ drop row_words (drop (n * row_words) l)
    later l =
        ap (λ (k : ℕ). drop k l) (suc-mul n row_words) ∙ sym (drop-drop row_words (n * row_words) l)

    pub filling_next : n < length (rows_of old) → Filling f old (put_row words n (f n)) (n + 1)
    unfolding list_to
    filling_next h = subst (Filling f old (put_row words n (f n))) (sym (add-one n)) record {
      front =
          put_front words n (f n) here ∙ ap (λ (l : List ℕ). l ++ in_words (f n ∷ [])) F.front ∙ sym (words_append (list_to f n) (f n ∷ []));
      rest = put_rest words n (f n) here ∙ later words ∙ ap (drop row_words) F.rest ∙ sym (later old);
      long = put_length words n (f n) ∙ F.long;
    }
      where
        here : n < length (rows_of words)
        here = subst (λ (k : ℕ). n < k) (sym (rows_as_long words old F.long)) h

    pub filling_end : words ≡ in_words (list_to f n) ++ drop (n * row_words) old
    filling_end = sym (take-append-drop (n * row_words) words) ∙ (λ i. F.front i ++ F.rest i)
