mod Ascii
pub mod Names
pub mod Others
pub mod Ports
mod Summaries
pub mod Unspoken
