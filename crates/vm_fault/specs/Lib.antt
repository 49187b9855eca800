pub mod Faults
pub mod Pushes
pub mod Rooms
pub mod Sources
pub mod Stops
pub mod Walks
