pub mod Lines
pub mod Index
