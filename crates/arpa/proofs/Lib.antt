pub mod Ngrams
pub mod Spelled
pub mod Longer
pub mod Asked
pub mod Scoring
pub mod Room
