pub mod Fits
pub mod Listing
