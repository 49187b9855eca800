pub mod Forgets
pub mod Locals
pub mod Places
pub mod Spot
pub mod Told
pub mod Words
