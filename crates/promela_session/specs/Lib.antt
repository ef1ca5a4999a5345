pub mod Events
pub mod Lines
pub mod Session
pub mod Devices
