pub mod Steps
pub mod Report
