pub mod Standing
pub mod Places
