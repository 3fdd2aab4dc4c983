pub mod Pages
pub mod Drawing
pub mod Views
pub mod Watches
pub mod Screens
pub mod Faults
pub mod Stops
pub mod Keys
