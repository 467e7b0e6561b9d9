-- `Limits`: the limits of the request by name. `Sets`: a row as a set of values. `Words`: sets held in words, any number of them.
-- `Rows`: how many words a row has, and the rows of lent words. `Walk`: a walk through a row. `Tables`: the lowest bad row of a table.
pub mod Limits
pub mod Sets
pub mod Words
pub mod Rows
pub mod Walk
pub mod Tables
