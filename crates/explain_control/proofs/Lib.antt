pub mod Rounds
pub mod Rows
pub mod Same
