pub mod Leading
pub mod Flat
pub mod Placing
pub mod Listing
pub mod Seeking
pub mod Undoing
pub mod Keeping
pub mod Rows
