pub mod Behind
pub mod Digits
pub mod Laws
pub mod Sizes
