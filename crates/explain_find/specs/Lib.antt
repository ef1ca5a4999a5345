pub mod Tokens
pub mod Marks
pub mod Control
pub mod Heads
pub mod Inlines
pub mod Told
pub mod Found
