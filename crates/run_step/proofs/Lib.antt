pub mod Passing
pub mod Leading
pub mod Inward
pub mod Taking
pub mod Keeping
