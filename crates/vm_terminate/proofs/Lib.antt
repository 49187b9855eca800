mod Dropping
mod Found
mod Leaving
pub mod Living
mod Rooms
pub mod Under
mod Walking
