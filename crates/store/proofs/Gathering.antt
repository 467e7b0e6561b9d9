-- A view is gathered a row at a time: the table rows that pass, then the desk's own. Assumes nothing.
use Prim.Native.Nat.{ℕ, zero, suc, ◌+◌, ◌≤◌, ◌<◌}
use mathlib.Core.Path.{◌≡◌, refl, sym, ap, ◌∙◌}
use mathlib.Core.Bool.{Bool, true, false, not}
use mathlib.Core.List.{List, [], ◌∷◌, ◌++◌, append-nil, append_assoc}
use native.Mathlib.Nat.{add-zero}
use native.Mathlib.Numerals.{unary_clauses}
use native.Mathlib.Omega.{arith}
use lib.ListN.{length, set, take, length-set, length-append}
use lib.Seq.{take-suc-set}
use Rattle.sets.specs.declared.Row.{Row}
use Rattle.sets.specs.Limits.{most_in_view}
use Rattle.sets.specs.Rows.{bits, rows_of, put_row}
use Rattle.sets.proofs.LentRows.{rows_stored}
use Rattle.theory.specs.Pairings.{at}
use Rattle.sheet.specs.Upto.{count_to, those}
use Rattle.sheet.proofs.UptoLaws.{count_yes, count_no, count_more, length-those, those_yes, those_no}
use Rattle.store.specs.Desks.{view}
use Rattle.store.specs.Code.Views.{Filled, Viewed}

-- ---- a list of rows

module _ {f : ℕ → Bool} {from : List ℕ} {start : ℕ} {old : List ℕ} where
  filled_start : Filled f from zero start old start old
  unfolding count_to those
  filled_start = record { count = sym (add-zero start); is = sym (append-nil (take start old)); long = refl }

  module _ {n end : ℕ} {rows : List ℕ} (F : Filled f from n start old end rows) where
    filled_pass : f n ≡ false → Filled f from (n + 1) start old end rows
    filled_pass e = simp unary_clauses record {
      count = F.count ∙ ap (λ (k : ℕ). start + k) (sym (count_no f n e));
      is = F.is ∙ ap (λ (l : List ℕ). take start old ++ l) (sym (those_no f n from e));
      long = F.long;
    }

    filled_more : f n ≡ true → end < length rows → Filled f from (n + 1) start old (end + 1) (set rows end (at from n))
    filled_more e h = simp unary_clauses record {
      count = omega (arith, F.count, count_yes f n e);
      is =
          take-suc-set rows end (at from n) h
          ∙ ap (λ (l : List ℕ). l ++ (at from n ∷ [])) F.is
          ∙ append_assoc (take start old) (those f from n) (at from n ∷ [])
          ∙ ap (λ (l : List ℕ). take start old ++ l) (sym (those_yes f n from e));
      long = length-set rows end (at from n) ∙ F.long;
    }

    -- a place is left for a row that passes
    filled_room : (m : ℕ) → n < m → f n ≡ true → start + count_to f m ≤ length old → end < length rows
    filled_room m h e room = omega (arith, F.count, F.long, count_yes f n e, count_more f (suc n) m h)

-- ---- words that hold the rows

-- as many words as before, whose rows are filled
pub record Gathered (f : ℕ → Bool) (from : List ℕ) (n start : ℕ) (old : List ℕ) (end : ℕ) (words : List ℕ) : Type 0 where
  pub long : length words ≡ length old
  pub filled : Filled f from n start (rows_of old) end (rows_of words)

module _ {f : ℕ → Bool} {from : List ℕ} {start : ℕ} {old : List ℕ} where
  pub gathered_start : Gathered f from zero start old start old
  gathered_start = record { long = refl; filled = filled_start }

  module _ {n end : ℕ} {words : List ℕ} (G : Gathered f from n start old end words) where
    pub gathered_pass : f n ≡ false → Gathered f from (n + 1) start old end words
    gathered_pass e = record { long = G.long; filled = filled_pass G.filled e }

    pub gathered_more : f n ≡ true → end < length (rows_of words) → (row : Row) → bits row ≡ at from n
        → {words' : List ℕ} → words' ≡ put_row words end (bits row) → Gathered f from (n + 1) start old (end + 1) words'
    gathered_more e h row is {words'} put =
        let stored = rows_stored words words' end row put h in
        record { long = stored.0 ∙ G.long; filled = rw (stored.1, is) (filled_more G.filled e h) }

    pub gathered_room : (m : ℕ) → n < m → f n ≡ true → start + count_to f m ≤ length (rows_of old) → end < length (rows_of words)
    gathered_room = filled_room G.filled

-- both parts make the view
pub viewed : {table : List ℕ} {many : ℕ} {hid g : ℕ → Bool} {sets : List ℕ} {used : ℕ} {old : List ℕ} {seen : ℕ} {rows : List ℕ} {n : ℕ}
    {rows' : List ℕ}
    → many ≡ length table → Filled (λ i. not (hid i)) table many zero old seen rows → Filled g sets used seen rows n rows' → n ≤ most_in_view
    → length old ≡ most_in_view → Viewed table hid (those g sets used) n rows'
unfolding view
viewed {table} {many} {hid} {g} {sets} {used} all T O most long =
    let f : ℕ → Bool = λ i. not (hid i) in
    let counted : count_to f many ≡ count_to f (length table) = ap (count_to f) all in
    record {
      count = omega (
        arith,
        T.count,
        counted,
        O.count,
        length-append (those f table (length table)) (those g sets used),
        length-those f table (length table),
        length-those g sets used,
      );
      is = O.is ∙ ap (λ (l : List ℕ). l ++ those g sets used) (T.is ∙ ap (those f table) all);
      most = most;
      long = O.long ∙ T.long ∙ long;
    }
