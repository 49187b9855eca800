pub mod Answers
pub mod Calls
pub mod Files
pub mod Finding
pub mod Stands
