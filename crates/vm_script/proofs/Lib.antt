pub mod Lines
pub mod Numbers
pub mod Reading
pub mod Spelt
pub mod Taken
pub mod Words
