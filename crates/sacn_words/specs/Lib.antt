pub mod Syntaxes
pub mod Texts
