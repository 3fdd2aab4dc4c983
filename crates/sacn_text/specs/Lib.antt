pub mod Words
pub mod Blocks
pub mod Decoding
pub mod Digits
pub mod PrintingFaults
pub mod Looks
pub mod Simulating
pub mod Printing
