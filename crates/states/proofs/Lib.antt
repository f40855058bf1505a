pub mod Answer
pub mod Back
pub mod Ghost
pub mod Showing
pub mod Testing
