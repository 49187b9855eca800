pub mod Begun
pub mod Behind
pub mod Ends
pub mod Headers
pub mod Same
pub mod Waits
