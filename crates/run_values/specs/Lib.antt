pub mod Written
pub mod Changed
pub mod Placed
