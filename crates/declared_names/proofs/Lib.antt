pub mod More
pub mod Known
