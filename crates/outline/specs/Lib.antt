pub mod Outline
pub mod Walk
