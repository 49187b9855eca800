pub mod Laundry
pub mod Reclaims
