pub mod Shown
pub mod Bound
pub mod Known
pub mod Starting
pub mod Laws
pub mod Channels
