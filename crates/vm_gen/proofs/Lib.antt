mod Drawing
pub mod Kept
