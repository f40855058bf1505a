pub mod Places
pub mod Numbers
pub mod Values
pub mod Imported
