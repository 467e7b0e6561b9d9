-- What a reader looks for, then what it stands on, lowest last.
-- `SamplesHold`: P1 to P10, computed. `FamilyIff`: Lemma 3.4. `KeptFamily`, `KeptFewest`: demand 2. `KeptNecessary`: the same in the paper's words.
-- `ExampleHolds`: the paper's Example 2.1. `KeptAnyD`: the kept positions follow from the rows alone.
-- `NextRow`, `FailedSearch`, `PlacedRows`: what the code needs of pairings that grow.
pub mod SamplesHold
pub mod FamilyIff
pub mod KeptFamily
pub mod KeptFewest
pub mod KeptNecessary
pub mod ExampleHolds
pub mod KeptAnyD
pub mod NextRow
pub mod FailedSearch
pub mod PlacedRows
-- `KeptRows`: the rows at the kept positions. `FamilyByRank`: Theorem 3.6, another way. `SameFamilies`: what a common family says of two lists.
-- `GreedyRank`: the second step comes to the view's rank. `MinimalRows`: the first step. `SwapValues`, `SwapRows`: the two exchange lemmas.
pub mod KeptRows
pub mod FamilyByRank
pub mod SameFamilies
pub mod GreedyRank
pub mod MinimalRows
pub mod SwapValues
pub mod SwapRows
-- `FewerRows`: ranks of fewer rows. `Marks`: pairings of marked rows. `Enumerations`: choices, pairings and rank are exact.
-- `Sizes`: sizes compared. `PairingSteps`: a pairing changed at one row. `Places`: lists of mates by place.
pub mod FewerRows
pub mod Marks
pub mod Enumerations
pub mod Sizes
pub mod PairingSteps
pub mod Places
