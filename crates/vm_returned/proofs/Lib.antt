pub mod Copies
pub mod Failing
pub mod Housed
pub mod Pushed
pub mod Queued
pub mod Returned
