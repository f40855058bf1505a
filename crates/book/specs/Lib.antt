pub mod Survey
pub mod Grams
pub mod Loaded
pub mod Lines
pub mod Entries
pub mod Target
