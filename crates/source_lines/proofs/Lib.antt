pub mod Texts
pub mod Lines
pub mod Feeds
pub mod Counting
pub mod Own
pub mod Rows
