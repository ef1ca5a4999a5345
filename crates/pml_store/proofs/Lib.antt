pub mod Places
pub mod Storing
pub mod Frames
pub mod OnePlace
pub mod Back
