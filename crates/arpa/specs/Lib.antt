-- The meaning of ticket 6, in the order in which it is best read.
pub mod Lines
pub mod Values
pub mod File
pub mod Words
pub mod Import
pub mod BackOff
