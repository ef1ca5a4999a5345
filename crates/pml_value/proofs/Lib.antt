pub mod Channels
pub mod Storing
pub mod Rows
pub mod InOrder
