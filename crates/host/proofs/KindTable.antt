-- What each kind of call is, and what a host is told of each answer, as the header prints it. Assumes nothing.
use Prim.Native.Nat.{ℕ, ◌<◌}
use mathlib.Core.Path.{◌≡◌, refl}
use mathlib.Core.List.{[], ◌∷◌, map}
use native.Mathlib.Omega.{arith}
use borrow.Author.Tests.{ne_eqb}
use Rattle.std.specs.Prelude.{Ok, Err, Some, None}
use Rattle.sets.specs.declared.Row.{Row}
use Rattle.sets.specs.Rows.{bits, as_row}
use Rattle.refusals.specs.declared.Refusal.TheVariants.{BadRow, NoRoom, RowOver, ShortBuffer}
use Rattle.store.specs.declared.Target.TheVariants.{Table, Own}
use Rattle.store.specs.declared.Call.TheVariants.{Do, Ask}
use Rattle.store.specs.declared.Change.TheVariants.{Delete, Insert, Reset}
use Rattle.store.specs.declared.Question.TheVariants.{Look, Count, Distinct}
use Rattle.store.specs.declared.Answer.TheVariants.{Done, Seen, Counted, Listed}
use Rattle.host.specs.declared.spoken.Plain.{Plain}
use Rattle.host.specs.Numbers.{plain_number, plain_read}
use Rattle.host.specs.Spoken.{asked_by, plain_of}

pub kinds_printed : (n : ℕ) → map (λ (kind : ℕ). asked_by kind n) (0 ∷ 1 ∷ 2 ∷ 3 ∷ 4 ∷ 5 ∷ 6 ∷ [])
    ≡ Some (Do (Delete (Table n))) ∷ Some (Do (Delete (Own n))) ∷ Some (Do (Insert (as_row n))) ∷ Some (Do Reset)
    ∷ Some (Ask (Look n)) ∷ Some (Ask Count) ∷ Some (Ask Distinct) ∷ []
unfolding asked_by
kinds_printed n = refl

-- no other kind is a call
pub other_kinds : (kind n : ℕ) → 6 < kind → asked_by kind n ≡ None
unfolding asked_by
other_kinds kind n h =
    rw (
      ne_eqb kind 0 (λ e. absurd (omega arith)),
      ne_eqb kind 1 (λ e. absurd (omega arith)),
      ne_eqb kind 2 (λ e. absurd (omega arith)),
      ne_eqb kind 3 (λ e. absurd (omega arith)),
      ne_eqb kind 4 (λ e. absurd (omega arith)),
      ne_eqb kind 5 (λ e. absurd (omega arith)),
      ne_eqb kind 6 (λ e. absurd (omega arith)),
    ) refl

-- a number, and then the values of the answer
abbrev tells : ℕ → ℕ → ℕ → Plain
tells refusal first second = record { refusal = refusal; first = first; second = second }

pub told_printed : (row : Row) (rows own n i : ℕ)
    → map plain_of (Ok Done ∷ Ok (Seen row) ∷ Ok (Counted rows own) ∷ Ok (Listed n) ∷ Err (BadRow i) ∷ Err NoRoom ∷ [])
    ≡ tells 0 0 0 ∷ tells 0 (bits row) 0 ∷ tells 0 rows own ∷ tells 0 n 0 ∷ tells 2 i 0 ∷ tells 10 0 0 ∷ []
told_printed row rows own n i = refl

-- of a view that belongs to no desk
pub kept_printed : (n i : ℕ) → map plain_number (Ok n ∷ Err (BadRow i) ∷ []) ≡ tells 0 n 0 ∷ tells 2 i 0 ∷ []
kept_printed n i = refl

-- of a lesson file, and of a table that is saved
pub read_printed : (d t i : ℕ) → map plain_read (Ok (d, t) ∷ Err (RowOver i) ∷ []) ≡ tells 0 d t ∷ tells 26 i 0 ∷ []
read_printed d t i = refl

pub saved_printed : (n i : ℕ) → map plain_number (Ok n ∷ Err (BadRow i) ∷ Err ShortBuffer ∷ [])
    ≡ tells 0 n 0 ∷ tells 2 i 0 ∷ tells 30 0 0 ∷ []
saved_printed n i = refl
