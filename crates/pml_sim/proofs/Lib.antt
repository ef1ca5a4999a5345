pub mod Leading
pub mod Living
pub mod Values
pub mod Stepping
pub mod Weight
pub mod Settling
pub mod Crowding
pub mod Lasting
pub mod Fitting
pub mod Short
pub mod Naming
mod Samples
