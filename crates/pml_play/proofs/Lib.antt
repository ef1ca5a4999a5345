mod Refusing
pub mod Outcomes
pub mod Playing
pub mod Each
pub mod Measured
pub mod Spelled
pub mod Tokens
pub mod Light
pub mod Changing
pub mod Plain
pub mod Run
pub mod EachPath
pub mod Shown
