pub mod Explained
pub mod Request
pub mod Said
