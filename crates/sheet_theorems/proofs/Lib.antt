pub mod Totals
pub mod Sheet
pub mod Reading
pub mod Room
pub mod Call
