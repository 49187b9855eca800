pub mod OneMemory
pub mod Operations
