pub mod Walks
pub mod Carrying
pub mod Noting
pub mod Putting
