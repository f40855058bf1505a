pub mod Order
pub mod Adding
pub mod Shows
pub mod Ghost
pub mod Answer
