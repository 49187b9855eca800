pub mod Bits
pub mod PageSets
mod Sought
mod Written
