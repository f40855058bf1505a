pub mod Rising
pub mod Asking
pub mod Telling
pub mod Counted
pub mod Places
