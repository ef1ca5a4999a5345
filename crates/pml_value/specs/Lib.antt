pub mod Seen
pub mod Takes
pub mod Storing
pub mod Laws
pub mod Reception
