pub mod Letters
pub mod Places
pub mod Removed
pub mod Walks
