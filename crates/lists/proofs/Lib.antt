pub mod Reports
pub mod Threes
pub mod Rounds
pub mod Placed
