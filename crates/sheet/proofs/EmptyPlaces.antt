-- The places behind those that stay become empty, and what the two passes leave together. Assumes nothing.
use Prim.Native.Nat.{ℕ, zero, ◌-◌, ◌*◌, ◌≤◌}
use mathlib.Core.Path.{◌≡◌, sym, ap, ◌∙◌}
use mathlib.Core.List.{List, ◌++◌}
use native.Mathlib.Omega.{arith}
use lib.ListN.{length, take, replicate}
use lib.Seq.{length-take-le}
use Rattle.sets.specs.Limits.{most_places}
use Rattle.sets.specs.Rows.{row_words, rows_of, in_words}
use Rattle.sets.proofs.LentRows.{words_append, words_zeros}
use Rattle.sheet.specs.declared.Sheet.{Sheet}
use Rattle.sheet.specs.Upto.{those}
use Rattle.sheet.specs.Changes.{padded, placing, stays, without}
use Rattle.sheet.specs.Code.Removals.{ClosedUp, emptied}
use Rattle.sheet.proofs.UptoLaws.{count-le, length-those}

-- the owners that stay, as 512 places hold them
pub owners_emptied : (left : ℕ) (old : List ℕ) → left ≤ length old → length old ≡ most_places
    → take left old ++ replicate (most_places - left) zero ≡ padded (take left old)
unfolding padded
owners_emptied left old h long = ap (λ (n : ℕ). take left old ++ replicate (most_places - n) zero) (sym (length-take-le left old h))

module _ {s : Sheet} {k from upto left : ℕ} {s' : Sheet} (C : ClosedUp s k from upto left s') where
  pub closed_few : s.used ≤ most_places → left ≤ most_places
  closed_few h = omega (arith, C.count, count-le (stays s.owners k from upto) s.used)

  abbrev kept : List ℕ
  kept = those (stays s.owners k from upto) (rows_of s.sets) s.used

  kept_words : take (left * row_words) s'.sets ++ replicate ((most_places - left) * row_words) zero ≡ in_words (padded kept)
  unfolding padded
  kept_words =
      let few : left ≡ length kept = C.count ∙ sym (length-those (stays s.owners k from upto) (rows_of s.sets) s.used) in
      ap (λ (l : List ℕ). l ++ replicate ((most_places - left) * row_words) zero) C.rows
      ∙ ap (λ (l : List ℕ). in_words kept ++ l) (sym (words_zeros (most_places - left)))
      ∙ ap (λ (m : ℕ). in_words kept ++ in_words (replicate (most_places - m) zero)) few
      ∙ sym (words_append kept (replicate (most_places - length kept) zero))

  pub taken_out : emptied s' left ≡ without s k from upto
  taken_out =
      ap (λ (t : Sheet). placing t left (emptied s' left).sets (emptied s' left).owners) C.rest
      ∙ ap (λ (n : ℕ). placing s n (emptied s' left).sets (emptied s' left).owners) C.count
      ∙ ap (λ (l : List ℕ). placing s (without s k from upto).used l (emptied s' left).owners) kept_words
      ∙ ap (λ (l : List ℕ). placing s (without s k from upto).used (without s k from upto).sets (padded l)) C.desks
