pub mod Untold
mod WidgetParts
mod Gone
