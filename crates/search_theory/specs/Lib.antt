pub mod Search
pub mod Loops
pub mod Statements
pub mod Orders
