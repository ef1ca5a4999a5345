pub mod Alike
pub mod Offers
