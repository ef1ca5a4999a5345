pub mod Defining
pub mod Calling
pub mod Giving
