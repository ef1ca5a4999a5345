pub mod Shapes
pub mod Stepping
pub mod Declaring
pub mod Chaining
pub mod Touching
mod Carrying
pub mod Living
pub mod Holding
pub mod Zeroed
mod Samples
mod Elements
mod Counted
mod Creating
pub mod Past
pub mod Bounding
