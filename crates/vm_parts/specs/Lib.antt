pub mod Changes
pub mod Controls
pub mod Fits
pub mod Listed
pub mod Locks
pub mod Merging
