pub mod Flat
pub mod From
pub mod Ordered
