pub mod Alike
pub mod Moving
pub mod Silent
