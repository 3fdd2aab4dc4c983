pub mod Placing
pub mod Covering
pub mod Counting
pub mod Streams
