pub mod SourceFaults
pub mod Rows
pub mod Table
pub mod Source
pub mod Wakes
pub mod Calls
