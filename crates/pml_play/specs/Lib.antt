pub mod Transcript
pub mod Outcomes
pub mod Parts
pub mod Converting
pub mod Plain
pub mod Run
pub mod Shown
