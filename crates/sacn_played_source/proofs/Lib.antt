pub mod Sending
pub mod SourceLevels
pub mod Adding
pub mod Places
pub mod Told
