pub mod Beside
pub mod Pushed
pub mod Sleeping
pub mod Swapped
pub mod Worked
