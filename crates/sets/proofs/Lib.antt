-- Sets as numbers: `Bools`: what a true or false `&&`, `||` or `not` says. `Values`: which values a set has, and that they are all there is to it.
-- `Subsets`: subsets and proper ones. `ValuesBelow`: sets with no value d or above. `Extremes`: the lowest and the highest value.
-- Sets in words, any number of them: `Words`, `WordSets`, `RowsInWords`. How many words a row has: `OneWord`.
-- For the rooms above: `RowValues`: a row by value. `LentRows`: the rows of lent words. `BadRows`: the lowest bad row.
pub mod Bools
pub mod Values
pub mod Subsets
pub mod ValuesBelow
pub mod Extremes
pub mod Words
pub mod WordSets
pub mod RowsInWords
pub mod OneWord
pub mod RowValues
pub mod LentRows
pub mod BadRows
