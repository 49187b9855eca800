pub mod Carried
pub mod Full
pub mod Letters
pub mod Places
pub mod Quiet
pub mod Unanswered
pub mod Unended
