pub mod Telling
pub mod Circling
