pub mod Handles
mod Refusals
mod StatusFields
pub mod Values
