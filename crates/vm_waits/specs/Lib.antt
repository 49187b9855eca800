pub mod Kept
pub mod Waits
pub mod Wants
