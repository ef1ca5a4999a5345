pub mod Dividing
pub mod Fresh
