pub mod Asking
pub mod Long
pub mod Scoring
pub mod Numbers
