pub mod Calling
pub mod Giving
pub mod Rounding
pub mod Heard
