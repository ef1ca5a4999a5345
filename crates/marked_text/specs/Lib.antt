pub mod Blanks
pub mod Writes
