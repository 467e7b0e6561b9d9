-- `AskExactlyWhen`: when a view is refused, with which number and row. `Determined`: any two outcomes coincide.
-- `RowSteps`: what one row more shows of the marks. `Offers`: one row more in a turn of offers. `MarksBefore`: the marks before a place.
-- `Start`: where the steps start. `Listing`: the positions of marks, one at a time. `Asking`: what is answered, case by case.
pub mod AskExactlyWhen
pub mod Determined
pub mod RowSteps
pub mod Offers
pub mod MarksBefore
pub mod Start
pub mod Listing
pub mod Asking
