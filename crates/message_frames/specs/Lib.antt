pub mod Framed
pub mod Front
