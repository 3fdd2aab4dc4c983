pub mod Following
pub mod Story
pub mod Counts
pub mod Ticking
pub mod Amounts
mod Padding
mod Digits
mod Letters
mod ForeignTexts
mod PlaceDigits
mod Runs
mod Texts
pub mod Telling
mod RowTexts
mod Turns
mod ListBooks
mod Turning
mod Waking
mod Among
mod KeptAlready
mod FirstPlaces
mod PagesAgree
