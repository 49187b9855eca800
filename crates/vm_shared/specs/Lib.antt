pub mod Carried
pub mod Run
pub mod Served
