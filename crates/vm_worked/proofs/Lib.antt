mod Beside
mod Pushed
pub mod Sleeping
mod SlowCopy
pub mod Steps
pub mod Swapped
pub mod Turns
