pub mod Standing
pub mod Asked
pub mod Owners
pub mod Offers
pub mod Gaps
pub mod References
