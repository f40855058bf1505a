pub mod Demanded
pub mod Drawers
pub mod Front
pub mod Walks
