mod Behind
mod Counts
mod Decimals
mod Hexadecimal
mod Kept
mod Named
mod Parts
mod Pieces
mod Ranges
mod Sizes
pub mod Spelling
mod Tables
pub mod Trimming
