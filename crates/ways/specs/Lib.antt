pub mod Codes
pub mod Back
pub mod Ties
