pub mod Gram
