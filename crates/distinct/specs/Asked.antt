-- What is answered to any caller of DISTINCT, about a view that belongs to no desk.
use Rattle.std.specs.Prelude.{ℕ, List, [], ◌∷◌, ◌++◌, ltb, length, drop, Result, Ok, Err}
use Rattle.sets.specs.Limits.{most_in_view}
use Rattle.refusals.specs.declared.Refusal.{Refusal}
use Rattle.refusals.specs.declared.Refusal.TheVariants.{ShortList}
use Rattle.refusals.specs.Cases.{Case, ◌gives◌, decided}
use Rattle.refusals.specs.TableCases.{table_cases}
use Rattle.theory.specs.Kept.{kept}

-- 11: 'the lent list has fewer places than the view has rows'
abbrev pub place_cases : List ℕ → ℕ → List Case
place_cases view places = (ltb places (length view) gives ShortList) ∷ []

-- before it the view is judged by 1 and 2, as a table is
unfoldable pub ask_cases : ℕ → List ℕ → ℕ → List Case
ask_cases d view places = table_cases most_in_view d view ++ place_cases view places

-- how many rows are kept, where the list has so many places
unfoldable pub ask_answer : ℕ → List ℕ → ℕ → Result ℕ Refusal
ask_answer d view places = decided Err (ask_cases d view places) (Ok (length (kept d view)))

-- 'the first n places of the lent list get the kept positions, later places keep what they had'; a refusal 'writes to no lent memory'
abbrev pub listed : ℕ → List ℕ → List ℕ → Result ℕ Refusal → List ℕ
listed d view list (Ok n) = kept d view ++ drop n list
listed d view list (Err r) = list
