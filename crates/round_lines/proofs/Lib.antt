pub mod Lines
pub mod Placing
pub mod Standing
pub mod Reading
