mod Bits
mod Listing
mod Telling
mod Silencing
mod Lights
pub mod Waking
mod Whole
pub mod Ticks
mod Tracking
mod Hearing
mod Contesting
mod Timely
mod Joining
mod Ending
mod Leaders
mod Exact
