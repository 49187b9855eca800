pub mod Calls
pub mod Contents
pub mod Kept
pub mod Slots
