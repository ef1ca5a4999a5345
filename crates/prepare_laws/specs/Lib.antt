pub mod LineEnds
pub mod Twice
pub mod Lists
