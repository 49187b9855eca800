pub mod Alike
pub mod Counting
pub mod Explored
pub mod Flat
pub mod Fresh
pub mod Runs
pub mod Whole
