pub mod SteppedToken
pub mod Stages
pub mod Changes
pub mod Writing
