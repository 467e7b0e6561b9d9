-- Which rows a list of rows can spare, and which it can't (the paper's Definitions 2.6 and 2.7).
-- The paper speaks of a set of rows; here a row is told by its place, since 'Equal rows are separate rows' (the request).
use Rattle.std.specs.Prelude.{ℕ, suc, Bool, List, ◌++◌, take, drop}
use Rattle.theory.specs.Family.{SameFamily}
use Rattle.theory.specs.Kept.{pick}

-- Definition 2.6: 'if we have F(Φ - Φ^) = F(Φ) for some Φ^ ⊂ Φ, then those partial values in Φ^ are said to be redundant in Φ
-- with respect to Φ - Φ^.' The marks tell the rows that stay, Φ - Φ^; the rows without a mark are the redundant ones.
abbrev pub Redundant : ℕ → List Bool → List ℕ → Type 0
Redundant d stay rows = SameFamily d rows (pick stay rows)

-- all the rows but the one at place i
abbrev pub all_but : ℕ → List ℕ → List ℕ
all_but i rows = take i rows ++ drop (suc i) rows

-- Definition 2.7: 'A partial value η in a set Φ is necessary in Φ if the deletion of η from Φ makes F(Φ - {η}) ≠ F(Φ).'
abbrev pub Necessary : ℕ → List ℕ → ℕ → Type 0
Necessary d rows i = SameFamily d rows (all_but i rows) → ⊥
