pub mod Bounds
pub mod Leading
pub mod Rests
mod Reading
