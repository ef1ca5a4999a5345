pub mod Declarations
pub mod Model
pub mod Numbered
pub mod Statements
