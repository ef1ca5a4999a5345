pub mod Given
pub mod Kinds
pub mod Made
pub mod Names
pub mod Refused
pub mod Shown
pub mod Statuses
