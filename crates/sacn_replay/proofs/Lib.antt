pub mod Rounding
pub mod Dues
pub mod Turns
pub mod Rewriting
pub mod Apart
pub mod Rounds
pub mod Tapes
pub mod Handing
