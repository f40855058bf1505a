pub mod Cut
pub mod Digits
pub mod Fields
pub mod Form
