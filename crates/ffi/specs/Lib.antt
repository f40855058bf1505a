pub mod Bounds
pub mod Calls
