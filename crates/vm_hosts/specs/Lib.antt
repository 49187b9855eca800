pub mod Hosts
pub mod Steps
