pub mod Books
pub mod Removal
pub mod Replies
