-- `ReadExactlyWhen`: when a file is refused, and what is returned. `RequestFile`: the request's own file. `UnknownCells`: unknown means the whole
-- column.
-- `ReaderTurns`: a fresh reader hands out the rows of a file in turn, and then no more. `ReaderRuns`: so does any run of a reader.
-- `WriteExactlyWhen`: when a table is not saved, and what is returned and written.
-- `ReadBack`: what was written is read again. `WriteBack`: what was read is written again. `LongFiles`: what stands behind a file is refused.
-- `Determined`: the contracts leave no choice.
-- `ByteLaws`: numbers in bytes fit a word, and are read as they were put. `RowLaws`: the first n rows.
-- `CellLaws`: a cell as it is read. `Filling`: words whose front is filled.
-- `MadeReader`: what a reader owns that is made of a file and a cursor.
-- `FilesJudged`: a file by its parts, and by its cases. `ReadFiles`: what is known of a file that is judged.
-- `TableBytes`: how many bytes a table takes, and where a row's stand. `Saving`: bytes put into a buffer, part by part. `TablesSaved`: what is
-- answered of a table once it is judged. `TablesRead`: what was read is a table that every call accepts.
pub mod ReadExactlyWhen
pub mod RequestFile
pub mod UnknownCells
pub mod ReaderTurns
pub mod ReaderRuns
pub mod WriteExactlyWhen
pub mod ReadBack
pub mod WriteBack
pub mod LongFiles
pub mod Determined
pub mod ByteLaws
pub mod RowLaws
pub mod CellLaws
pub mod MadeReader
pub mod Filling
pub mod FilesJudged
pub mod ReadFiles
pub mod TableBytes
pub mod Saving
pub mod TablesSaved
pub mod TablesRead
