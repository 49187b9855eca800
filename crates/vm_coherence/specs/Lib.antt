pub mod Carried
pub mod Crossing
pub mod Idle
pub mod Locals
pub mod Remapping
pub mod SlowCopy
