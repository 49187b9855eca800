pub mod Answers
pub mod Calls
pub mod Stands
pub mod Telling
