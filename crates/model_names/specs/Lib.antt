pub mod Told
pub mod Found
pub mod Inlines
pub mod Kept
