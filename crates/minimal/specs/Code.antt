-- `Marking`: which rows are marked so far, and how rows are chained by how many values they have.
pub mod Marking
