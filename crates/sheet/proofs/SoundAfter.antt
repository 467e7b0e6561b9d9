-- A fresh sheet is sound, and each change keeps a sheet sound. Assumes nothing.
use Prim.Native.Nat.{ℕ, zero, suc, ◌+◌, ◌-◌, ◌*◌, ◌%◌, ◌≤◌, ◌<◌}
use mathlib.Core.Path.{◌≡◌, refl, sym, ap, ◌∙◌}
use mathlib.Core.Logic.{◌≢◌, ◌⊎◌, inl, inr}
use mathlib.Core.Bool.{true, false}
use mathlib.Core.List.{List}
use native.Mathlib.Nat.{not-suc-le-zero}
use native.Mathlib.Decide.{ℕ_discrete}
use native.Mathlib.Omega.{arith}
use lib.ListN.{set, length-replicate}
use Rattle.sets.specs.Limits.{most_desks, most_held, most_places, most_rows, most_values, promised, word_bits}
use Rattle.theory.specs.Pairings.{at}
use Rattle.theory.proofs.Places.{at_same, at_other, past}
use Rattle.sets.specs.Sets.{has, within}
use Rattle.sets.specs.Rows.{row_words, rows_of}
use Rattle.sets.proofs.Bools.{not_both}
use Rattle.sets.proofs.Values.{has-empty}
use Rattle.sets.proofs.LentRows.{rows_zero}
use Rattle.sheet.specs.declared.Sheet.{Sheet}
use Rattle.sheet.specs.Upto.{count_to, those}
use Rattle.sheet.specs.Sheets.{held, Whole, word, hides, owed, shaped, sound, mark_words, all_marks}
use Rattle.sheet.specs.Changes.{fresh_sheet, marking, hide, hiding, adding, padded, stays, without, wiped, showing, resetting}
use Rattle.sheet.proofs.UptoLaws.{length-those, top_or-below, sum_part, sum_but_one, sum_most}
use Rattle.sheet.proofs.ClosingUp.{at_zeros, at-padded, those_from}
use Rattle.sheet.proofs.PlaceRows.{place_rows, row_small, rows_closed}
use Rattle.sheet.proofs.OwnAfter.{held-adding_same, held-adding_other, rows_adding, held-without_other, held-without_less, used_without}
use Rattle.sheet.proofs.HidesAfter.{hides_other, wiped_same, wiped_other}
use Rattle.sheet.proofs.SoundParts.{Sound, sound_parts, parts_sound, used_is_held}

-- ---- a fresh sheet

pub whole_fresh : (d rows desks : ℕ) → Whole (fresh_sheet d rows desks)
unfolding fresh_sheet
whole_fresh d rows desks =
    record {
      marks_long = length-replicate all_marks zero;
      sets_long = length-replicate (most_places * row_words) zero;
      owners_long = length-replicate most_places zero;
    }

pub sound_fresh : (d rows desks : ℕ) → 1 ≤ d → d ≤ most_values → rows ≤ most_rows → 1 ≤ desks → desks ≤ most_desks
    → sound (fresh_sheet d rows desks) ≡ true
unfolding fresh_sheet count_to hides
sound_fresh d rows desks a b c e f =
    parts_sound (fresh_sheet d rows desks)
    record {
      some_value = a;
      values = b;
      table = c;
      some_desk = e;
      few_desks = f;
      places = omega arith;
      owner = λ i h. absurd (not-suc-le-zero h);
      row = λ i h. absurd (not-suc-le-zero h);
      no_owner = λ i h l. at_zeros most_places i;
      no_row = λ i h l. ap (λ (rows : List ℕ). at rows i) (rows_zero most_places) ∙ at_zeros most_places i;
      share = λ k h. omega arith;
      promise = omega (arith, sum_most (λ k. promised) desks promised (λ k h. omega arith));
      mark = λ k n h l t. absurd (not_both t (ap (λ (x : ℕ). has x (n % word_bits)) (at_zeros all_marks (word k n)) ∙ has-empty (n % word_bits)));
    }

pub zeros_unsound : sound (fresh_sheet zero zero zero) ≡ false
unfolding sound shaped fresh_sheet
zeros_unsound = refl

-- ---- other marks

pub sound-marking : {s : Sheet} (marks : List ℕ) → Sound s
    → ((k n : ℕ) → k < most_desks → n < most_rows → hides marks k n ≡ true → (k < s.desks) × (n < s.rows)) → Sound (marking s marks)
sound-marking marks p right =
    record {
      some_value = p.some_value;
      values = p.values;
      table = p.table;
      some_desk = p.some_desk;
      few_desks = p.few_desks;
      places = p.places;
      owner = p.owner;
      row = p.row;
      no_owner = p.no_owner;
      no_row = p.no_row;
      share = p.share;
      promise = p.promise;
      mark = right;
    }

pub sound-hiding : {s : Sheet} (k n : ℕ) → Whole s → sound s ≡ true → k < s.desks → n < s.rows → sound (hiding s k n) ≡ true
sound-hiding {s} k n w ok hk hn = parts_sound (hiding s k n) (sound-marking (hide s.marks k n) (sound_parts s ok) right)
  where
    old : (j m : ℕ) → j < most_desks → m < most_rows → (j ≢ k) ⊎ (m ≢ n) → hides (hide s.marks k n) j m ≡ true → (j < s.desks) × (m < s.rows)
    old j m a b ne t =
        let p = sound_parts s ok in
        p.mark j m a b (sym (hides_other s.marks k n w.marks_long (omega (arith, p.few_desks)) (omega (arith, p.table)) j m b ne) ∙ t)

    right : (j m : ℕ) → j < most_desks → m < most_rows → hides (hide s.marks k n) j m ≡ true → (j < s.desks) × (m < s.rows)
    right j m a b t = elim (ℕ_discrete j k) [
      | yes e ↦ (elim (ℕ_discrete m n) [
        | yes q ↦ (omega arith, omega arith)
        | no ne ↦ old j m a b (inr ne) t
      ])
      | no ne ↦ old j m a b (inl ne) t
    ]

pub sound-showing : (s : Sheet) (k : ℕ) → sound s ≡ true → sound (showing s k) ≡ true
sound-showing s k ok = parts_sound (showing s k) (sound-marking (wiped s.marks (k * mark_words) mark_words) (sound_parts s ok) right)
  where
    right : (j m : ℕ) → j < most_desks → m < most_rows → hides (wiped s.marks (k * mark_words) mark_words) j m ≡ true → (j < s.desks) × (m < s.rows)
    right j m a b t = elim (ℕ_discrete j k) [
      | yes e ↦ absurd (not_both t (rw e (wiped_same s.marks k m b)))
      | no ne ↦ (sound_parts s ok).mark j m a b (sym (wiped_other s.marks k m b j ne) ∙ t)
    ]

-- ---- a row is added

-- a desk that holds fewer than 8, or any while a place is neither used nor promised, finds a place
pub room : (s : Sheet) (k : ℕ) → sound s ≡ true → k < s.desks → (held s k < promised) ⊎ (s.used + owed s < most_places) → s.used < most_places
room s k ok hk (inl few) = omega (arith, sum_part (λ k. promised - held s k) s.desks k hk, (sound_parts s ok).promise)
room s k ok hk (inr free) = omega arith

module _ {s : Sheet} (k row : ℕ) (w : Whole s) (p : Sound s) (hk : k < s.desks) (h : s.used < most_places) where
  new_owners : (i : ℕ) → i < suc s.used → at (set s.owners s.used k) i < s.desks
  new_owners i l = elim (top_or-below s.used i l) [
    | inl e ↦ rw (e, at_same s.owners s.used k (omega arith)) hk
    | inr m ↦ rw (at_other s.owners s.used k i (omega arith)) (p.owner i m)
  ]

  module _ (hr : within s.d row ≡ true) where
    -- the rows are read from the new words
    added : rows_of (adding s k row).sets ≡ set (rows_of s.sets) s.used row
    added = rows_adding k row w h (row_small s.d row p.values hr)

    new_rows : (i : ℕ) → i < suc s.used → within s.d (at (rows_of (adding s k row).sets) i) ≡ true
    new_rows i l = elim (top_or-below s.used i l) [
      | inl e ↦ rw (added, e, at_same (rows_of s.sets) s.used row (omega (arith, place_rows s.sets w.sets_long))) hr
      | inr m ↦ rw (added, at_other (rows_of s.sets) s.used row i (omega arith)) (p.row i m)
    ]

    no_new_row : (i : ℕ) → i < most_places → suc s.used ≤ i → at (rows_of (adding s k row).sets) i ≡ zero
    no_new_row i l m =
        ap (λ (rows : List ℕ). at rows i) added ∙ at_other (rows_of s.sets) s.used row i (omega arith) ∙ p.no_row i l (omega arith)

  new_share : held s k < most_held → (j : ℕ) → j < s.desks → held (adding s k row) j ≤ most_held
  new_share hh j l = elim (ℕ_discrete j k) [
    | yes e ↦ rw e (omega (arith, held-adding_same k row w h))
    | no ne ↦ omega (arith, held-adding_other k row w h j ne, p.share j l)
  ]

  new_promise : (held s k < promised) ⊎ (s.used + owed s < most_places) → suc s.used + owed (adding s k row) ≤ most_places
  new_promise c =
      let one = held-adding_same k row w h in
      let others =
      sum_but_one (λ j. promised - held (adding s k row) j) (λ j. promised - held s j) s.desks k hk
      (λ j l ne. ap (λ (x : ℕ). promised - x) (held-adding_other k row w h j ne)) in
      elim c [ inl few ↦ omega (arith, p.promise) | inr free ↦ omega arith ]

pub sound-adding : {s : Sheet} (k row : ℕ) → Whole s → sound s ≡ true → k < s.desks → within s.d row ≡ true → held s k < most_held
    → (held s k < promised) ⊎ (s.used + owed s < most_places) → sound (adding s k row) ≡ true
sound-adding {s} k row w ok hk hr hh c =
    let p = sound_parts s ok in
    let h = room s k ok hk c in
    parts_sound (adding s k row)
    record {
      some_value = p.some_value;
      values = p.values;
      table = p.table;
      some_desk = p.some_desk;
      few_desks = p.few_desks;
      places = h;
      owner = new_owners k row w p hk h;
      row = new_rows k row w p hk h hr;
      no_owner = λ i l m. at_other s.owners s.used k i (omega arith) ∙ p.no_owner i l (omega arith);
      no_row = no_new_row k row w p hk h hr;
      share = new_share k row w p hk h hh;
      promise = new_promise k row w p hk h c;
      mark = p.mark;
    }

-- ---- rows are taken out

module _ {s : Sheet} (k from upto : ℕ) (p : Sound s) (hk : k < s.desks) (ab : from ≤ upto) where
  abbrev kept : List ℕ → List ℕ
  kept l = those (stays s.owners k from upto) l s.used

  kept_owner : (i : ℕ) → i < (without s k from upto).used → at (padded (kept s.owners)) i < s.desks
  kept_owner i h =
      let t = those_from (stays s.owners k from upto) s.owners s.used i h in
      rw (at-padded (kept s.owners) i, t.2) (p.owner t.0 t.1)

  -- the rows are read from the new words
  kept_rows : rows_of (without s k from upto).sets ≡ padded (kept (rows_of s.sets))
  kept_rows = rows_closed (stays s.owners k from upto) s.sets s.used

  kept_row : (i : ℕ) → i < (without s k from upto).used → within s.d (at (rows_of (without s k from upto).sets) i) ≡ true
  kept_row i h =
      let t = those_from (stays s.owners k from upto) (rows_of s.sets) s.used i h in
      rw (kept_rows, at-padded (kept (rows_of s.sets)) i, t.2) (p.row t.0 t.1)

  past_kept : (l : List ℕ) (i : ℕ) → (without s k from upto).used ≤ i → at (padded (kept l)) i ≡ zero
  past_kept l i h = at-padded (kept l) i ∙ past (kept l) i (omega (arith, length-those (stays s.owners k from upto) l s.used))

  less_share : (j : ℕ) → j < s.desks → held (without s k from upto) j ≤ most_held
  less_share j l = elim (ℕ_discrete j k) [
    | yes e ↦ rw e (omega (arith, held-without_less s k from upto ab, p.share k hk))
    | no ne ↦ omega (arith, held-without_other s k from upto j ne, p.share j l)
  ]

  less_promise : (without s k from upto).used + owed (without s k from upto) ≤ most_places
  less_promise =
      let less = held-without_less s k from upto ab in
      let holds = sum_but_one (held (without s k from upto)) (held s) s.desks k hk (λ j l ne. held-without_other s k from upto j ne) in
      let owes =
      sum_but_one (λ j. promised - held (without s k from upto) j) (λ j. promised - held s j) s.desks k hk
      (λ j l ne. ap (λ (x : ℕ). promised - x) (held-without_other s k from upto j ne)) in
      omega (arith, p.promise, used_is_held s p.owner, used_is_held (without s k from upto) kept_owner)

pub sound-without : (s : Sheet) (k from upto : ℕ) → sound s ≡ true → k < s.desks → from ≤ upto → sound (without s k from upto) ≡ true
sound-without s k from upto ok hk ab =
    let p = sound_parts s ok in
    parts_sound (without s k from upto)
    record {
      some_value = p.some_value;
      values = p.values;
      table = p.table;
      some_desk = p.some_desk;
      few_desks = p.few_desks;
      places = omega (arith, used_without s k from upto, p.places);
      owner = kept_owner k from upto p hk ab;
      row = kept_row k from upto p hk ab;
      no_owner = λ i l. past_kept k from upto p hk ab s.owners i;
      no_row = λ i l m. ap (λ (rows : List ℕ). at rows i) (kept_rows k from upto p hk ab) ∙ past_kept k from upto p hk ab (rows_of s.sets) i m;
      share = less_share k from upto p hk ab;
      promise = less_promise k from upto p hk ab;
      mark = p.mark;
    }

pub sound-resetting : (s : Sheet) (k : ℕ) → sound s ≡ true → k < s.desks → sound (resetting s k) ≡ true
sound-resetting s k ok hk = sound-showing (without s k zero most_places) k (sound-without s k zero most_places ok hk (omega arith))
