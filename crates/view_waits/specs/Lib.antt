pub mod Because
pub mod Searched
pub mod Waits
pub mod Added
pub mod Why
pub mod Laws
pub mod Filled
pub mod Offers
