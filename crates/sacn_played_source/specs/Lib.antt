pub mod Universes
pub mod Played
pub mod Calls
pub mod Laws
