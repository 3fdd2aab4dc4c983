pub mod FileFaults
pub mod Document
pub mod Keys
pub mod Values
pub mod Rows
pub mod Numbers
pub mod Words
pub mod Lines
