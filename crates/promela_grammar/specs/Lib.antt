pub mod Expressions
pub mod Actions
pub mod Models
