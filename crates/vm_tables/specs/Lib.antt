pub mod Cases
pub mod Counting
pub mod Messages
