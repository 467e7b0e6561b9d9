-- `Sheet::empty_from` meets its contract. Assumes nothing.
use Prim.Native.Nat.{ℕ, zero, ◌-◌, ◌*◌}
use mathlib.Core.Path.{◌≡◌, ap, ap₂, ◌∙◌}
use mathlib.Core.List.{◌++◌}
use native.Mathlib.Omega.{arith}
use borrow.Author.Rules.{rules}
use lib.ListN.{length, take, replicate}
use Rattle.sets.specs.Limits.{most_places}
use Rattle.sets.specs.Rows.{row_words}
use Rattle.sheet.specs.Changes.{placing}
use Rattle.sheet.proofs.Fills.{filled_rest}
use Rattle.sheet.proofs.EmptyPlaces.{owners_emptied}
use Rattle.sheet.proofs.Sheet.empty_from.Goals as goal

pub returns : goal.returns
returns c =
    let s = c.args.self.now in
    let left = c.args.left in
    let sets_long : length s.sets ≡ most_places * row_words = search rules in
    let owners_long : length s.owners ≡ most_places = search rules in
    let few = c.requires in
    let rest : most_places * row_words - left * row_words ≡ (most_places - left) * row_words = omega arith in
    let sets = filled_rest (left * row_words) (most_places * row_words - left * row_words) s.sets _ (c.fill.ensures.after (λ y e. e)) (omega arith) in
    let owners = filled_rest left (most_places - left) s.owners _ (c.fill-2.ensures.after (λ y e. e)) (omega arith) in
    ap₂ (placing s left)
    (sets ∙ ap (λ (n : ℕ). take (left * row_words) s.sets ++ replicate n zero) rest)
    (owners ∙ owners_emptied left s.owners (omega arith) owners_long)
