-- Places close up, from front to back, where they lie: each is put down behind those that stay. Assumes nothing.
use Prim.Native.Nat.{ℕ, zero, suc, ◌+◌, ◌*◌, ◌≤◌, ◌<◌}
use mathlib.Core.Path.{◌≡◌, refl, sym, ap, ◌∙◌}
use mathlib.Core.Bool.{Bool, true, false, not, cond, ◌&&◌}
use mathlib.Core.List.{List, [], ◌∷◌, ◌++◌}
use native.Mathlib.Omega.{arith}
use Rattle.std.specs.Int.{from_bool}
use lib.Dec.{eqb, leb, ltb}
use lib.ListN.{length, set, take, drop, length-set}
use lib.Seq.{drop-cons, get_or-drop, take-suc-set, take-set-le, drop-set-lt}
use Rattle.sets.specs.Limits.{most_places}
use Rattle.sets.specs.Rows.{row_words, rows_of, in_words, put_row}
use Rattle.sets.proofs.LentRows.{rows_less, put_length, rows_put, put_front, words_append}
use Rattle.theory.specs.Pairings.{at}
use Rattle.sheet.specs.Upto.{count_to, those}
use Rattle.sheet.specs.Sheets.{owns}
use Rattle.sheet.specs.Changes.{stays}
use Rattle.sheet.proofs.UptoLaws.{count-le, those_yes, those_no}
use Rattle.sheet.proofs.PlaceRows.{place_rows, put_before}

-- ---- one list

-- from place n on nothing has moved
pub record Kept (n : ℕ) (old new : List ℕ) : Type 0 where
  pub behind : drop n new ≡ drop n old
  pub long : length new ≡ length old

module _ {n : ℕ} {old new : List ℕ} (K : Kept n old new) where
  kept_at : at new n ≡ at old n
  kept_at =
      let here : n + 0 ≡ n = omega arith in
      ap (at new) (sym here) ∙ sym (get_or-drop n new 0 zero) ∙ ap (λ (l : List ℕ). at l 0) K.behind ∙ get_or-drop n old 0 zero ∙ ap (at old) here

  kept_more : (left x : ℕ) → left ≤ n → n < length old → Kept (suc n) old (set new left x)
  kept_more left x few h = record {
    behind =
        drop-set-lt (suc n) new left x (omega arith)
        ∙ ap (drop 1) (sym (drop-cons new n zero (omega (arith, K.long))) ∙ K.behind ∙ drop-cons old n zero h);
    long = length-set new left x ∙ K.long;
  }

-- the next place is put down behind those that stay: of owners, and of rows in words
module _ (f : ℕ → Bool) (old : List ℕ) (n left x : ℕ) (same : x ≡ at old n) (new : List ℕ) where
  front_more : left < length new → take left new ≡ those f old n → take (cond (f n) (suc left) left) (set new left x) ≡ those f old (suc n)
  front_more h front = go (f n) refl
    where
      go : (b : Bool) → f n ≡ b → take (cond b (suc left) left) (set new left x) ≡ those f old (suc n)
      go true e =
          take-suc-set new left x h ∙ ap (λ (l : List ℕ). l ++ (x ∷ [])) front ∙ ap (λ (y : ℕ). those f old n ++ (y ∷ [])) same
          ∙ sym (those_yes f n old e)
      go false e = take-set-le left new left x (omega arith) ∙ front ∙ sym (those_no f n old e)

  words_more : left < length (rows_of new) → take (left * row_words) new ≡ in_words (those f old n)
      → take (cond (f n) (suc left) left * row_words) (put_row new left x) ≡ in_words (those f old (suc n))
  words_more h front = go (f n) refl
    where
      go : (b : Bool) → f n ≡ b → take (cond b (suc left) left * row_words) (put_row new left x) ≡ in_words (those f old (suc n))
      go true e =
          put_front new left x h ∙ ap (λ (l : List ℕ). l ++ in_words (x ∷ [])) front ∙ sym (words_append (those f old n) (x ∷ []))
          ∙ ap (λ (y : ℕ). in_words (those f old n ++ (y ∷ []))) same ∙ ap in_words (sym (those_yes f n old e))
      go false e = put_before new left x h ∙ front ∙ ap in_words (sym (those_no f n old e))

-- ---- the pass

-- one more where it is true
counted_on : (b : Bool) (n : ℕ) → n + from_bool b ≡ cond b (suc n) n
counted_on true n = omega arith
counted_on false n = omega arith

-- the first `next` places are passed; `seen` of them are the desk's, and `left` of them stay, in front
pub record Passing (k from upto : ℕ) (sets owners : List ℕ) (seen left next : ℕ) (sets' owners' : List ℕ) : Type 0 where
  pub seen_is : seen ≡ count_to (owns owners k) next
  pub left_is : left ≡ count_to (stays owners k from upto) next
  pub rows : take (left * row_words) sets' ≡ in_words (those (stays owners k from upto) (rows_of sets) next)
  pub desks : take left owners' ≡ those (stays owners k from upto) owners next
  pub rows_kept : Kept next (rows_of sets) (rows_of sets')
  pub desks_kept : Kept next owners owners'
  pub long : length sets' ≡ length sets

pub passing_start : (k from upto : ℕ) (sets owners : List ℕ) → Passing k from upto sets owners zero zero zero sets owners
unfolding count_to those in_words
passing_start k from upto sets owners =
    record {
      seen_is = refl;
      left_is = refl;
      rows = refl;
      desks = refl;
      rows_kept = record { behind = refl; long = refl };
      desks_kept = record { behind = refl; long = refl };
      long = refl;
    }

module _ {k from upto : ℕ} {sets owners : List ℕ} {seen left next : ℕ} {sets' owners' : List ℕ}
    (P : Passing k from upto sets owners seen left next sets' owners')
    (s : length sets ≡ most_places * row_words) (o : length owners ≡ most_places) where
  pub passing_few : (seen ≤ next) × (left ≤ next)
  passing_few = (omega (arith, P.seen_is, count-le (owns owners k) next), omega (arith, P.left_is, count-le (stays owners k from upto) next))

  -- one place more: what the code learns of its owner, and whether its row goes
  module _ (gone : Bool) (says : gone ≡ (eqb (at owners' next) k && (leb from seen && ltb seen upto)))
      (one : ℕ) (more : one ≡ from_bool (eqb (at owners' next) k)) (kept : ℕ) (rest : kept ≡ from_bool (not gone)) where
    owns_is : eqb (at owners' next) k ≡ owns owners k next
    owns_is = ap (λ (o : ℕ). eqb o k) (kept_at P.desks_kept)

    stay_is : not gone ≡ stays owners k from upto next
    stay_is =
        ap not (says ∙ ap (λ (b : Bool). b && (leb from seen && ltb seen upto)) owns_is
        ∙ ap (λ (n : ℕ). owns owners k next && (leb from n && ltb n upto)) P.seen_is)

    seen_more : seen + one ≡ cond (owns owners k next) (suc seen) seen
    seen_more = ap (λ (n : ℕ). seen + n) more ∙ counted_on (eqb (at owners' next) k) seen ∙ ap (λ (b : Bool). cond b (suc seen) seen) owns_is

    left_more : left + kept ≡ cond (stays owners k from upto next) (suc left) left
    left_more = ap (λ (n : ℕ). left + n) rest ∙ counted_on (not gone) left ∙ ap (λ (b : Bool). cond b (suc left) left) stay_is

    -- its row is put down
    pub passing_more : next < most_places → (row : ℕ) → row ≡ at (rows_of sets') next → (sets'' : List ℕ) → sets'' ≡ put_row sets' left row
        → Passing k from upto sets owners (seen + one) (left + kept) (suc next) sets'' (set owners' left (at owners' next))
    unfolding count_to
    passing_more h row same sets'' put =
        let few = passing_few.1 in
        let many = place_rows sets' (P.long ∙ s) in
        let rows'' = ap rows_of put ∙ rows_put sets' left row (omega arith) (rw same (rows_less sets' next)) in
        record {
          seen_is = seen_more ∙ ap (λ (n : ℕ). cond (owns owners k next) (suc n) n) P.seen_is;
          left_is = left_more ∙ ap (λ (n : ℕ). cond (stays owners k from upto next) (suc n) n) P.left_is;
          rows = rw (left_more, put)
              (words_more (stays owners k from upto) (rows_of sets) next left row (same ∙ kept_at P.rows_kept) sets' (omega arith) P.rows);
          desks = rw left_more
              (front_more (stays owners k from upto) owners next left (at owners' next) (kept_at P.desks_kept) owners'
              (omega (arith, P.desks_kept.long)) P.desks);
          rows_kept = rw rows'' (kept_more P.rows_kept left row passing_few.1 (omega (arith, place_rows sets s)));
          desks_kept = kept_more P.desks_kept left (at owners' next) passing_few.1 (omega arith);
          long = ap length put ∙ put_length sets' left row ∙ P.long;
        }
