pub mod Shown
pub mod Escaped
