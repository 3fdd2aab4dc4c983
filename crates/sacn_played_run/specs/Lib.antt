pub mod Calls
pub mod Taking
pub mod Rounds
pub mod Endings
pub mod Laws
