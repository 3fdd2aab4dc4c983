mod Handing
pub mod Following
mod Letters
mod Choosing
