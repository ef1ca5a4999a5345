pub mod Offering
pub mod Moved
pub mod Renamed
