pub mod Decodes
mod ShortNumbers
pub mod Simulates
pub mod ReadLemmas
pub mod Prints
