mod Common
mod Unspoken
pub mod abroad
pub mod controls
pub mod lists
pub mod memory
pub mod room
pub mod space
pub mod steps
