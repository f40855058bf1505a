-- The meaning of document 01, in the order in which it is best read.
pub mod Questions
pub mod Numerals
pub mod Bounds
pub mod Book
pub mod Direction
pub mod Derivation
pub mod State
pub mod Search
pub mod Reply
pub mod Revision
pub mod Round
pub mod Render
pub mod Sheet
