pub mod Looking
pub mod Stopping
pub mod Open
pub mod Counting
pub mod Crossing
pub mod Conversions
pub mod Surrounding
mod Samples
