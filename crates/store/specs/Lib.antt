-- `Answers`: answers by the request's numbers. `Desks`: what one desk is told. `Calls`: begin and the desk calls on the class sheet.
-- `Promise`: demand 3. `Code`: words that only loops, their contracts and their proofs use.
pub mod Answers
pub mod Desks
pub mod Calls
pub mod Promise
pub mod Code
