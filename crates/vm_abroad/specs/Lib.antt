pub mod Home
pub mod Own
pub mod Run
pub mod Same
pub mod Sound
pub mod Whose
