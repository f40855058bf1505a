pub mod Counts
pub mod Gathered
pub mod Cuts
pub mod Walk
pub mod Places
pub mod Sought
pub mod Length
