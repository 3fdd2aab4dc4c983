pub mod Reads
pub mod Cids
pub mod Events
pub mod WorldFaults
pub mod WorldFile
pub mod Schedules
