pub mod Model
pub mod Next
pub mod Prepared
