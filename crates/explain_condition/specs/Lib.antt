pub mod Signs
pub mod Causes
pub mod Walks
pub mod Told
