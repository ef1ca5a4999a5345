mod Targets
pub mod Offering
mod Helping
