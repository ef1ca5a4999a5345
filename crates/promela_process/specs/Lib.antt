pub mod Numbers
pub mod Expressions
pub mod Store
pub mod Control
pub mod Offers
