pub mod Flat
pub mod Wide
