-- `Bytes`: numbers in bytes. `Rows`: the first n rows. `Files`: what a lesson file says. `FileCases`: when it is refused.
-- `Reading`: what is answered, and what `read` leaves. `RowByRow`: the reader, row by row. `Writing`: a table as a file, and what `write` answers
-- and leaves.
pub mod Bytes
pub mod Rows
pub mod Files
pub mod FileCases
pub mod Reading
pub mod RowByRow
pub mod Writing
