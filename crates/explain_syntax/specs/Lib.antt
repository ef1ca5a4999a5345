pub mod Beside
pub mod Trials
pub mod Wanted
