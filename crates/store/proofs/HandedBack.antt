-- What a call leaves as it came: a refusal the sheet and the list, a question the sheet, a change the list; and every call the places of the list
-- behind those that it fills. Assumes nothing.
use Prim.Native.Nat.{ℕ}
use mathlib.Core.Path.{◌≡◌, refl, sym}
use mathlib.Core.Bool.{Bool, true, false, cond}
use mathlib.Core.List.{List, ◌++◌}
use lib.ListN.{length, drop}
use lib.Seq.{drop-append_seam}
use Rattle.sheet.specs.declared.Sheet.{Sheet}
use Rattle.sheet.specs.Sheets.{own, hides}
use Rattle.store.specs.declared.Call.{Call}
use Rattle.store.specs.declared.Call.TheVariants.{Do, Ask}
use Rattle.store.specs.declared.Change.{Change}
use Rattle.store.specs.declared.Question.{Question}
use Rattle.store.specs.Answers.{accepted}
use Rattle.store.specs.Desks.{written, list_after}
use Rattle.store.specs.Calls.{answered, changed, sheet_after, told}
use Rattle.store.proofs.Serving.{nothing_written}

module _ (d : ℕ) (table : List ℕ) (s : Sheet) (k : ℕ) where
  -- 'hands back the sheet it was handed, and writes to no lent memory'
  pub refused_hands_back : (c : Call) (list : List ℕ) → accepted (answered d table s k c (length list)) ≡ false
      → (sheet_after d table s k c (length list) ≡ s) × ((told d table s k c list).list ≡ list)
  unfolding sheet_after list_after
  refused_hands_back c list e = (rw e refl, rw e refl)

  -- 'look, count and distinct hand it back as it came': every question there is or will be
  pub question_hands_back : (q : Question) (places : ℕ) → sheet_after d table s k (Ask q) places ≡ s
  unfolding sheet_after changed
  question_hands_back q places = go (accepted (answered d table s k (Ask q) places))
    where
      go : (b : Bool) → cond b s s ≡ s
      go true = refl
      go false = refl

  pub change_writes_nothing : (c : Change) (list : List ℕ) → (told d table s k (Do c) list).list ≡ list
  unfolding written
  change_writes_nothing c list = sym (nothing_written (answered d table s k (Do c) (length list)) list)

  -- 'Calls added later also keep the places of a lent list after those they fill.'
  pub later_places_stay : (c : Call) (list : List ℕ) → let front = written d table (hides s.marks k) (own s k) c in
      drop (length front) (told d table s k c list).list ≡ drop (length front) list
  unfolding list_after
  later_places_stay c list = go (accepted (answered d table s k c (length list)))
    where
      front : List ℕ
      front = written d table (hides s.marks k) (own s k) c

      go : (b : Bool) → drop (length front) (cond b (front ++ drop (length front) list) list) ≡ drop (length front) list
      go true = drop-append_seam front (drop (length front) list)
      go false = refl
