pub mod Going
pub mod Lengths
pub mod Numbers
pub mod Rows
pub mod Sums
pub mod Totals
