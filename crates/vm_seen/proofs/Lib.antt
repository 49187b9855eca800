pub mod Accesses
pub mod Behind
pub mod Counts
pub mod Headers
pub mod Loads
pub mod Shown
pub mod Supplied
pub mod Waiting
