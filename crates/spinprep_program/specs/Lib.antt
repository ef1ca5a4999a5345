pub mod Over
pub mod Statuses
