pub mod Standing
pub mod Held
pub mod Coded
pub mod Flatly
pub mod Live
pub mod Calls
pub mod Footprint
pub mod Storing
