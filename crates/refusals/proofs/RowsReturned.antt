-- The row that is returned with a refusal: with 2 the lowest bad row of the table, with 26 a row too, and 0 with any other. Assumes nothing.
use Prim.Native.Nat.{ℕ, zero}
use mathlib.Core.Path.{◌≡◌, refl, ap, ◌∙◌}
use mathlib.Core.Logic.{◌≢◌, inl, inr}
use mathlib.Core.Bool.{true, false≢true}
use mathlib.Core.List.Memᴰ
use mathlib.Core.List.{List, ◌++◌}
use native.Mathlib.Omega.{arith}
use Rattle.std.specs.Prelude.{Option, Some, None}
use Rattle.sets.specs.Tables.{bad_row}
use Rattle.sets.proofs.BadRows.{LowestBad, bad_row-at}
use Rattle.refusals.specs.declared.Refusal.{Refusal}
use Rattle.refusals.specs.declared.Refusal.TheVariants.{TooLarge, BadRow, Unsound, OtherTable, NoDesk, NoRow, HiddenAlready, BadSet, Full}
use Rattle.refusals.specs.declared.Refusal.TheVariants.{NoRoom, ShortList, LongView, BadDesks, ShortFile, WrongMark, WrongVersion, BadValues}
use Rattle.refusals.specs.declared.Refusal.TheVariants.{ManyRows, CutShort, RowOver, FewPlaces, LongFile, ShortBuffer}
use Rattle.refusals.specs.Refusals.{number, row}
use Rattle.refusals.specs.Cases.{Case, found, found_at, decided, Rising}
use Rattle.refusals.specs.TableCases.{bad_case, table_cases}
use Rattle.refusals.proofs.Outcomes.{outcome, stands, refuses}
use Rattle.refusals.proofs.FirstInOrder.{own_refusal}
use Rattle.refusals.proofs.GivenExactlyWhen.{rising_numbered}

-- ---- '0 except where stated'

row_stated : (r : Refusal) → number r ≢ 2 → number r ≢ 26 → row r ≡ zero
row_stated TooLarge a b = refl
row_stated (BadRow i) a b = absurd (a refl)
row_stated Unsound a b = refl
row_stated OtherTable a b = refl
row_stated NoDesk a b = refl
row_stated NoRow a b = refl
row_stated HiddenAlready a b = refl
row_stated BadSet a b = refl
row_stated Full a b = refl
row_stated NoRoom a b = refl
row_stated ShortList a b = refl
row_stated LongView a b = refl
row_stated BadDesks a b = refl
row_stated ShortFile a b = refl
row_stated WrongMark a b = refl
row_stated WrongVersion a b = refl
row_stated BadValues a b = refl
row_stated ManyRows a b = refl
row_stated CutShort a b = refl
row_stated (RowOver i) a b = absurd (b refl)
row_stated FewPlaces a b = refl
row_stated LongFile a b = refl
row_stated ShortBuffer a b = refl

-- what was found, where a case names it
pub found_at_lem : (f : Option ℕ) → found f ≡ true → f ≡ Some (found_at f)
found_at_lem None e = absurd (false≢true e)
found_at_lem (Some i) e = refl

-- the cases of a table, with others behind them
pub table_rising : (most d : ℕ) (table : List ℕ) (cs : List Case) → Rising 2 cs → Rising 0 (table_cases most d table ++ cs)
unfolding table_cases
table_rising most d table cs r = (omega arith, (omega arith, r))

module _ {A : Type 0} (refused : Refusal → A) (number_of : A → ℕ) (tells : (r : Refusal) → number_of (refused r) ≡ number r) (a : A) where
  pub no_row : (row_of : A → ℕ) → ((r : Refusal) → row_of (refused r) ≡ row r) → row_of a ≡ zero → (cs : List Case)
      → number_of (decided refused cs a) ≢ 2 → number_of (decided refused cs a) ≢ 26 → row_of (decided refused cs a) ≡ zero
  no_row row_of names none cs not-2 not-26 = elim (outcome cs) [
    | inl none-applies ↦ ap row_of (stands refused cs none-applies a) ∙ none
    | inr (r, g) ↦
        (let given = refuses refused cs r g a in
        let number_is : number_of (decided refused cs a) ≡ number r = ap number_of given ∙ tells r in
        ap row_of given ∙ names r ∙ row_stated r (λ z. not-2 (number_is ∙ z)) (λ z. not-26 (number_is ∙ z)))
  ]

  -- 'returns the lowest such row'
  pub lowest_bad_row : (most d : ℕ) (table : List ℕ) (cs : List Case) → Rising 2 cs → number_of a ≡ zero
      → number_of (decided refused (table_cases most d table ++ cs) a) ≡ 2
      → (i : ℕ) × (decided refused (table_cases most d table ++ cs) a ≡ refused (BadRow i)) × LowestBad d table i
  unfolding table_cases
  lowest_bad_row most d table cs r accepts e =
      let f = bad_row d table in
      let all = table_cases most d table ++ cs in
      let given = own_refusal refused number_of tells a accepts all (rising_numbered 0 all (table_rising most d table cs r)) (bad_case f)
      (Memᴰ.tail (Memᴰ.head refl)) e in
      (found_at f, given.1, bad_row-at d table (found_at f) (found_at_lem f given.0))
