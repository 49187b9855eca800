pub mod Adds
pub mod Kernels
pub mod Letters
pub mod Steps
pub mod World
pub mod Worlds
