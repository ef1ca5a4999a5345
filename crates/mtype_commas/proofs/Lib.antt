pub mod Punctuating
pub mod Naming
