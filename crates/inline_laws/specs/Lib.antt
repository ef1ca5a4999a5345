pub mod Derived
pub mod Expanded
pub mod Defined
pub mod Called
pub mod Given
