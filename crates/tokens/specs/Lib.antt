pub mod Scan
pub mod Fields
