pub mod Follows
pub mod Law
pub mod Orders
pub mod Played
pub mod Stands
pub mod Unspoken
