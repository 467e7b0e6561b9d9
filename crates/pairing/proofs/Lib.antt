-- `AskSteps`: what each step of the search shows. `SearchRounds`: the values that have no row, one after another.
-- `SeatColumns`: rows go into columns. `SeatReach`: the values of the rows that were not asked. `Snoc`: a row more at the end.
-- `Benches`: what a row more does to the seats. `SeatSteps`: the same on the places in which the seats are kept.
pub mod AskSteps
pub mod SearchRounds
pub mod SeatColumns
pub mod SeatReach
pub mod Snoc
pub mod Benches
pub mod SeatSteps
