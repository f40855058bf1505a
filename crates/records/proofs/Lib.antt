pub mod Laws
pub mod Prefix
pub mod Placing
pub mod Walk
