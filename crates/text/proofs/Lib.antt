pub mod Numbers
pub mod Row
pub mod Lines
pub mod InRow
