mod Allowed
mod Changes
mod Counts
mod Covered
pub mod Entering
mod Found
mod Kept
mod Mappings
pub mod Multiples
mod Order
mod Outside
pub mod Pages
pub mod Range
mod Rewriting
mod Splits
mod Tasks
mod Walk
