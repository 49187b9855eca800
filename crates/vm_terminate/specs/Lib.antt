pub mod Counts
pub mod Destroys
pub mod Finishes
pub mod Steps
