pub mod Choices
pub mod Walks
pub mod Records
