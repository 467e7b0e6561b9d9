-- Hide marks by words: which rows a word that is right has, and that all words have no others. Assumes nothing.
use Prim.Native.Nat.{ℕ, zero, suc, ◌+◌, ◌-◌, ◌*◌, ◌/◌, ◌%◌, ◌^◌, ◌≤◌, ◌<◌}
use mathlib.Core.Path.{◌≡◌, refl, sym, ap, ◌∙◌, subst}
use mathlib.Core.Logic.{◌≢◌, ◌⊎◌, inl, inr}
use mathlib.Core.Bool.{Bool, true, false, not, ◌&&◌, ◌||◌}
use native.Mathlib.Omega.{arith}
use lib.Dec.{eqb, leb, ltb}
use borrow.Author.Tests.{lt-ltb, ltb-true, leb-true, eq-eqb, eqb-true}
use Rattle.std.proofs.lemmas.Nat.{leading_length}
use Rattle.sets.specs.Limits.{most_desks, most_rows, word_bits}
use Rattle.sets.specs.Sets.{has}
use Rattle.sets.proofs.Bools.{and_left, and_right, and_both, or_cases, or_left, or_right, true_or_false, not_both}
use Rattle.sets.proofs.Extremes.{top_has}
use Rattle.sets.proofs.ValuesBelow.{has_less}
use Rattle.theory.specs.Pairings.{at}
use Rattle.sheet.specs.declared.Sheet.{Sheet}
use Rattle.sheet.specs.Upto.{all_to}
use Rattle.sheet.specs.Sheets.{hides, marked_right, mark_words, all_marks}
use Rattle.sheet.specs.Code.Surveys.{top, word_right}
use Rattle.sheet.proofs.UptoLaws.{all_fails, all_intro, top_or-below}

-- ---- one word

-- its rows are below its top, and where it has one, the row below its top is one of them
below_top : (a v : ℕ) → a < 2 ^ word_bits → has a v ≡ true → v < top a
below_top a v small t =
    let l = leading_length word_bits a small in
    omega (arith, l.1, has_less l.0 a v l.2 t)

neither : (a b : Bool) → (a || b) ≡ false → b ≡ false
neither true b e = absurd (not_both refl e)
neither false b e = e

-- ---- all words

-- every word before the next has only rows that it may have
pub record Marked (s : Sheet) (next : ℕ) : Type 0 where
  pub before : (w : ℕ) → w < next → (v : ℕ) → has (at s.marks w) v ≡ true → (w / mark_words < s.desks) × (w % mark_words * word_bits + v < s.rows)

-- the test of row n of desk k
abbrev allowed : Sheet → ℕ → ℕ → Bool
allowed s k n = not (hides s.marks k n) || (ltb k s.desks && ltb n s.rows)

-- what is asked of a word that has rows
abbrev fits : Sheet → ℕ → Bool
fits s w = ltb (w / mark_words) s.desks && leb (w % mark_words * word_bits + top (at s.marks w)) s.rows

module _ (s : Sheet) where
  -- a word with a row that it may not have
  pub marked_wrong : (w : ℕ) → w < all_marks → at s.marks w < 2 ^ word_bits → word_right s w (at s.marks w) ≡ false → marked_right s ≡ false
  unfolding marked_right hides word_right
  marked_wrong w h small e =
      all_fails (λ k. all_to (allowed s k) most_rows) most_desks (w / mark_words) (omega arith)
      (all_fails (allowed s (w / mark_words)) most_rows n (omega (arith, there.0)) (rw (hid, out) refl))
    where
      some : top (at s.marks w) ≢ zero
      some z = not_both (or_left (eqb (top (at s.marks w)) 0) (fits s w) (eq-eqb (top (at s.marks w)) 0 z)) e

      there : (top (at s.marks w) - 1 < word_bits) × (has (at s.marks w) (top (at s.marks w) - 1) ≡ true)
      there = top_has word_bits (at s.marks w) (top (at s.marks w)) small refl some

      v : ℕ
      v = top (at s.marks w) - 1

      n : ℕ
      n = w % mark_words * word_bits + v

      hid : has (at s.marks (w / mark_words * mark_words + n / word_bits)) (n % word_bits) ≡ true
      hid =
          ap (λ (x : ℕ). has (at s.marks x) (n % word_bits)) (omega (arith, there.0)) ∙ ap (has (at s.marks w)) (omega (arith, there.0))
          ∙ there.1

      out : (ltb (w / mark_words) s.desks && ltb n s.rows) ≡ false
      out =
          let next : suc n ≡ w % mark_words * word_bits + top (at s.marks w) = omega (arith, some) in
          ap (λ (x : ℕ). ltb (w / mark_words) s.desks && leb x s.rows) next
          ∙ neither (eqb (top (at s.marks w)) 0) (fits s w) e

module _ {s : Sheet} {next : ℕ} (m : Marked s next) where
  pub marked_more : at s.marks next < 2 ^ word_bits → word_right s next (at s.marks next) ≡ true → Marked s (suc next)
  unfolding word_right
  marked_more small e = record { before = before }
    where
      here : (v : ℕ) → has (at s.marks next) v ≡ true → (next / mark_words < s.desks) × (next % mark_words * word_bits + v < s.rows)
      here v t =
          let l = below_top (at s.marks next) v small t in
          let row : ℕ = next % mark_words * word_bits + top (at s.marks next) in
          elim (or_cases (eqb (top (at s.marks next)) 0) (ltb (next / mark_words) s.desks && leb row s.rows) e) [
            | inl z ↦ absurd (omega (arith, l, eqb-true (top (at s.marks next)) 0 z))
            | inr z ↦
                (let desk = ltb-true (next / mark_words) s.desks (and_left (ltb (next / mark_words) s.desks) (leb row s.rows) z) in
                let few = leb-true row s.rows (and_right (ltb (next / mark_words) s.desks) (leb row s.rows) z) in
                (desk, omega (arith, l, few)))
          ]

      before : (w : ℕ) → w < suc next → (v : ℕ) → has (at s.marks w) v ≡ true → (w / mark_words < s.desks) × (w % mark_words * word_bits + v < s.rows)
      before w h v t = elim (top_or-below next w h) [
        | inl q ↦
            subst (λ (x : ℕ). (x / mark_words < s.desks) × (x % mark_words * word_bits + v < s.rows)) (sym q)
            (here v (ap (λ (x : ℕ). has (at s.marks x) v) (sym q) ∙ t))
        | inr l ↦ m.before w l v t
      ]

  pub marked_all : all_marks ≤ next → true ≡ marked_right s
  unfolding marked_right hides
  marked_all h =
      sym (all_intro (λ k. all_to (allowed s k) most_rows) most_desks
      (λ k kl. all_intro (allowed s k) most_rows (λ n nl. one k kl n nl (true_or_false (hides s.marks k n)))))
    where
      one : (k : ℕ) → k < most_desks → (n : ℕ) → n < most_rows → (hides s.marks k n ≡ true) ⊎ (hides s.marks k n ≡ false)
          → allowed s k n ≡ true
      one k kl n nl (inr f) = or_left (not (hides s.marks k n)) (ltb k s.desks && ltb n s.rows) (ap not f)
      one k kl n nl (inl t) =
          let ok = m.before (k * mark_words + n / word_bits) (omega arith) (n % word_bits) t in
          or_right (not (hides s.marks k n)) (ltb k s.desks && ltb n s.rows)
          (and_both (ltb k s.desks) (ltb n s.rows) (lt-ltb k s.desks (omega (arith, ok.0))) (lt-ltb n s.rows (omega (arith, ok.1))))
