pub mod Losing
pub mod Merges
pub mod Standing
