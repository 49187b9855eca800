pub mod Placed
pub mod Walking
mod Passing
mod Idle
mod Loops
pub mod Naming
pub mod Answering
mod Most
pub mod Replying
pub mod Readers
pub mod Quiet
pub mod Acting
pub mod Serving
pub mod Whole
pub mod Paying
pub mod Starting
pub mod Words
