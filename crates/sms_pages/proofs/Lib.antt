pub mod Recalls
pub mod Pages
pub mod Serving
pub mod Facts
pub mod Following
pub mod Taken
