pub mod Open
pub mod Fitted
pub mod Finds
pub mod First
pub mod Labels
pub mod Laws
pub mod Step
