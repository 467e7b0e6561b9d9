-- `Upto`: what can be said of the numbers below n. `Sheets`: the class sheet, read, and its soundness. `Changes`: what each change makes of it.
-- `Code`: words that only loops, their contracts and their proofs use.
pub mod Upto
pub mod Sheets
pub mod Changes
pub mod Code
