pub mod Printing
pub mod Words
