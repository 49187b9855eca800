pub mod Bits
pub mod Groups
pub mod Places
