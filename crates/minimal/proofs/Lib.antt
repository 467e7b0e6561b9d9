-- `Apart`: sets with no value in common, and clear rows. `FirstRows`: which rows the first step marks, said by place.
-- `Counts`: a proper subset has fewer values, and how many rows are marked.
-- `SingleRows`: the rows of one value. `Links`: the chains. `Scans`: the tests for a subset. `RowTags`: equal rows have one tag.
-- `Sifting`: the rows of the chains are judged.
pub mod Apart
pub mod FirstRows
pub mod Counts
pub mod SingleRows
pub mod Links
pub mod Scans
pub mod RowTags
pub mod Sifting
