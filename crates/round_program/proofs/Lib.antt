pub mod Sheets
pub mod Inputs
