-- `NumberTable`: the numbers as the request prints them. `FirstInOrder`: which refusal a list of cases gives, the first that applies.
-- `GivenExactlyWhen`: where they stand in the order of their numbers, the lowest. `RowsReturned`: which row goes with it.
-- `CaseNumbers`: which numbers have a case, and which apply. `Outcomes`: what a list of cases comes to, whatever the type of the answer.
-- `TablesJudged`: what is known of a table once it is judged.
pub mod NumberTable
pub mod FirstInOrder
pub mod GivenExactlyWhen
pub mod RowsReturned
pub mod CaseNumbers
pub mod Outcomes
pub mod TablesJudged
