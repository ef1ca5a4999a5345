pub mod Strings
pub mod Growing
