pub mod Moving
pub mod Shown
