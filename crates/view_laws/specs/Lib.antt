pub mod Along
pub mod Played
pub mod Waiting
