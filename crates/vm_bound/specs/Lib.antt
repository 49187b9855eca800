pub mod Letters
pub mod Lines
pub mod Accesses
pub mod Places
pub mod Bound
pub mod Settles
