pub mod FirstFaults
pub mod OwnCids
