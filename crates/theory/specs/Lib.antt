-- In the order of the paper and of the request. `Family`: choices, value sets and families. `Pairings`: pairings and the rank.
-- `Kept`: which rows DISTINCT keeps. `Necessary`: which rows are redundant, and which necessary. `Samples`: the table P1 to P10.
-- `Code`: words that only loops, their contracts and their proofs use.
pub mod Family
pub mod Pairings
pub mod Kept
pub mod Necessary
pub mod Samples
pub mod Code
