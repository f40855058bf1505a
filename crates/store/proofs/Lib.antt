pub mod Writes
pub mod Indexing
