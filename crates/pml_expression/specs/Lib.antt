pub mod Starts
pub mod Reading
