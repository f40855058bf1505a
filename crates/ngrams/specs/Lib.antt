pub mod Parts
pub mod Grams
