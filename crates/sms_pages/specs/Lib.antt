pub mod Directory
pub mod Desk
pub mod Stands
