pub mod Pushed
pub mod Returned
