mod Common
pub mod Acting
pub mod Behind
pub mod Dues
pub mod Files
pub mod Homes
pub mod Newest
pub mod Nobodys
pub mod Pairs
pub mod Rooms
pub mod Serving
pub mod Starting
pub mod Stretches
pub mod Tables
pub mod Taking
