pub mod Sites
pub mod Blamed
