pub mod Table
pub mod Answers
pub mod Kept
pub mod Stands
