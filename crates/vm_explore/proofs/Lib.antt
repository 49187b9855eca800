pub mod Occurrences
pub mod Longer
pub mod Members
pub mod Loads
pub mod Counted
pub mod Lines
