pub mod Answered
pub mod Inputs
pub mod Short
