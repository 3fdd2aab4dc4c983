mod Alarming
mod Losing
mod Mapping
mod Owing
mod OwnGets
mod Pieces
mod Replaying
mod Rows
