pub mod InTurn
pub mod Lines
pub mod PieceLemmas
pub mod Selecting
mod LevelGiving
