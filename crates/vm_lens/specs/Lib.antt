pub mod Exploring
pub mod Top
