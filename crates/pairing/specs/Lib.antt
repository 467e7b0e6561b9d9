-- Nothing to believe here: pairings, and the rank, are those of `theory`.
-- `Code`: words that only loops, their contracts and their proofs use.
pub mod Code
