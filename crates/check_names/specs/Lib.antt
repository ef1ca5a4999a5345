pub mod Entry
pub mod Env
pub mod Places
pub mod Totals
