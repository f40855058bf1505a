pub mod Capped
pub mod Examples
pub mod Magnitude
pub mod Nearest
pub mod Parts
pub mod Places
