pub mod Signs
pub mod Places
pub mod Windows
pub mod Shown
pub mod Beside
pub mod Seen
