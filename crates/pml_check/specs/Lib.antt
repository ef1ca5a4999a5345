pub mod Fitted
pub mod Decided
pub mod Broken
pub mod Subject
pub mod Checked
