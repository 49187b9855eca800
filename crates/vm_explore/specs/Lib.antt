pub mod Levels
pub mod Outcomes
pub mod Tables
