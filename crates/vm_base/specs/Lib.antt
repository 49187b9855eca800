pub mod Buffers
pub mod Code
pub mod Entries
pub mod Keys
pub mod Limits
pub mod Listing
pub mod Pages
