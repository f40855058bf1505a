pub mod Codes
pub mod Decoding
pub mod Scoring
