pub mod State
pub mod Statements
pub mod Moves
pub mod Lines
pub mod Steps
pub mod World
