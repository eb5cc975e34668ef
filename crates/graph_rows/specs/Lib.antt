pub mod Listing
pub mod Zeros
