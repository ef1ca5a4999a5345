pub mod Valuing
pub mod Staying
