-- Nothing to believe here: the marks that the first step comes to are `firsts` of `theory`.
-- `Code`: words that only loops, their contracts and their proofs use.
pub mod Code
