pub mod Steps
mod Padding
mod Merging
mod FrameOctets
mod Blocks
mod Lists
mod Places
mod Searches
mod Edits
mod Copies
mod Sweeps
mod Losses
mod Taking
mod Layers
mod Giving
mod Keeps
mod Mirrors
mod TablesAgree
mod Histories
mod Bounds
mod PlainEdits
mod PlainLayers
pub mod Wakes
