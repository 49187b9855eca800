pub mod Frames
pub mod Kept
pub mod Lending
