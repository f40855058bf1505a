pub mod Written
pub mod Replies
