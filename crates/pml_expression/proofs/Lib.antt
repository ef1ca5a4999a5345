pub mod Turns
pub mod Runs
pub mod Signs
pub mod Steps
pub mod Lists
pub mod Found
pub mod Again
pub mod Kept
