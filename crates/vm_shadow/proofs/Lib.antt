mod Counts
mod Overs
mod Places
pub mod Ranks
pub mod Sole
mod Sums
mod Tables
mod Tallying
mod Weights
