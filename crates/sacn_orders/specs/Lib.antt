pub mod OrderFaults
pub mod Pieces
pub mod Orders
