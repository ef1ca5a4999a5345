pub mod Places
pub mod Changes
pub mod Writing
pub mod Names
pub mod Laws
