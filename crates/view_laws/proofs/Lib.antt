pub mod Along
pub mod Played
pub mod Coded
pub mod Spelt
pub mod Filled
