-- `Refusals`: the number and the row of each refusal. `Cases`: which of several is given. `TableCases`: the cases of a lent table.
pub mod Refusals
pub mod Cases
pub mod TableCases
