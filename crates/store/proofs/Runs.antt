-- Runs of calls through a door of the store, and what they come to where each call is determined. Assumes nothing.
use mathlib.Core.Path.{◌≡◌, refl, ap, ◌∙◌}
use mathlib.Core.List.{List, [], ◌∷◌}
use Rattle.sheet.specs.declared.Sheet.{Sheet}

-- A door takes the sheet that the call before it left. `opens`: the sheets that a lesson may begin with. `door`: what may come of a turn on a sheet:
-- what is told, and the sheet that it leaves. The last turn stands first.
module _ {A O : Type 0} (opens : Sheet → Type 0) (door : Sheet → A → O → Sheet → Type 0) where
  pub data Run : List A → List O → Sheet → Type 0 where
    opened : {s : Sheet} → opens s → Run [] [] s
    turned : {past : List A} {said : List O} {s s' : Sheet} {t : A} {o : O} → Run past said s → door s t o s' → Run (t ∷ past) (o ∷ said) s'

-- where each turn is told `tells` and leaves `leaves`, and the lesson begins with `start`
module _ {A O : Type 0} (start : Sheet) (tells : Sheet → A → O) (leaves : Sheet → A → Sheet) where
  unfoldable pub after : List A → Sheet
  after [] = start
  after (t ∷ past) = leaves (after past) t

  unfoldable pub saying : List A → List O
  saying [] = []
  saying (t ∷ past) = tells (after past) t ∷ saying past

  pub run_says : {opens : Sheet → Type 0} {door : Sheet → A → O → Sheet → Type 0} → ((s : Sheet) → opens s → s ≡ start)
      → ((s : Sheet) (t : A) (o : O) (s' : Sheet) → door s t o s' → (o ≡ tells s t) × (s' ≡ leaves s t))
      → {past : List A} {said : List O} {s : Sheet} → Run opens door past said s → (said ≡ saying past) × (s ≡ after past)
  unfolding after saying
  run_says begins turns (opened b) = (refl, begins _ b)
  run_says begins turns (turned {past} {said} {s} {s'} {t} {o} run step) =
      let before = run_says begins turns run in
      let now = turns s t o s' step in
      (λ i. (now.0 ∙ ap (λ (x : Sheet). tells x t) before.1) i ∷ before.0 i, now.1 ∙ ap (λ (x : Sheet). leaves x t) before.1)
