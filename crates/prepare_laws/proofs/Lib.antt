pub mod OpenSince
pub mod LineEnds
pub mod Twice
pub mod Lists
mod Rows
