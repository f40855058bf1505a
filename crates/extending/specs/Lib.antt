pub mod Extend
pub mod Searchable
