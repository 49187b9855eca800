mod ByTask
pub mod Copies
pub mod Entries
pub mod Lines
pub mod Rows
pub mod Tables
