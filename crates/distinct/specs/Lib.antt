-- `Asked`: what is answered to any caller, about a view that belongs to no desk.
-- `Code`: words that only loops, their contracts and their proofs use.
pub mod Asked
pub mod Code
