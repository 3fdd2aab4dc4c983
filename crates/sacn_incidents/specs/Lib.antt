pub mod Deeds
pub mod Gathering
pub mod Calls
