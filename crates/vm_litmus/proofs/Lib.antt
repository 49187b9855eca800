pub mod Commands
pub mod InOrder
pub mod Listed
pub mod Outcomes
