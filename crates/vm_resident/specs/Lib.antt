pub mod Groups
pub mod Kept
pub mod Resident
