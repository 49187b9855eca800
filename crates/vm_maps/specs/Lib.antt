pub mod Judge
pub mod Maps
pub mod Rows
pub mod Tables
