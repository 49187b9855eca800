pub mod Free
pub mod Orders
pub mod Outcomes
