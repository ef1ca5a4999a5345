pub mod Words
mod Things
mod Growing
mod Agreeing
mod Layers
mod Only
mod Standing
mod Declaring
mod Acting
mod Bodies
mod Newly
mod Reading
mod Quiet
pub mod Limits
mod Marking
mod Units
pub mod Model
pub mod Limited
pub mod Tiling
pub mod Leading
mod Rows
pub mod Going
