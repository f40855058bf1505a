pub mod Walk
pub mod Reading
pub mod TextReplies
pub mod Room
