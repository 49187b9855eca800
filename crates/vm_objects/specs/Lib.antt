pub mod Marks
pub mod Objects
