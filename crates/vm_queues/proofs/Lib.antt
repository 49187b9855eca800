pub mod Apart
pub mod Balance
mod Chains
mod Linking
mod Moves
pub mod Queued
