pub mod Tables
pub mod Tokens
pub mod Inlines
