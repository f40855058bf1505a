pub mod Found
pub mod Judged
pub mod Noted
pub mod Rest
pub mod Saturated
pub mod Shapes
pub mod Steps
pub mod Tally
