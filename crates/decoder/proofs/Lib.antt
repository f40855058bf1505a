pub mod Deciding
pub mod Replies
