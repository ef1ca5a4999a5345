pub mod Counts
pub mod Worths
pub mod Sized
pub mod Resizing
