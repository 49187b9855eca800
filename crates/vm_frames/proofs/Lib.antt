mod Copies
pub mod Spares
mod Tables
