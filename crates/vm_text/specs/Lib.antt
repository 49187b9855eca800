pub mod Fields
pub mod Forms
pub mod Script
pub mod Stops
pub mod Words
