pub mod Staying
pub mod Charts
pub mod Opening
pub mod Kept
