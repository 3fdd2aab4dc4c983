pub mod Admitting
pub mod Chaining
pub mod Fitting
pub mod GoingOn
pub mod Leading
pub mod LightEnds
pub mod Losses
pub mod Tracking
mod Cids
