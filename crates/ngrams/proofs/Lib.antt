pub mod Parts
pub mod Keys
pub mod Records
pub mod Index
pub mod Differ
pub mod Lines
pub mod Repeats
