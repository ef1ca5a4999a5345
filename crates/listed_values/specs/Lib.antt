pub mod Lists
pub mod Courses
pub mod Settings
pub mod Changes
pub mod Writing
pub mod Laws
