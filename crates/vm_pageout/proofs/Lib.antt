pub mod Listing
pub mod Taken
