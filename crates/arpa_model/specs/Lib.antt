pub mod Walk
pub mod Model
pub mod Write
