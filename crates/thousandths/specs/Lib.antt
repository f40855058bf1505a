pub mod Digits
pub mod Rounded
