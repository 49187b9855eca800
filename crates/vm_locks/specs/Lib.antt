pub mod Obeys
pub mod Passing
pub mod Requests
pub mod Rooms
