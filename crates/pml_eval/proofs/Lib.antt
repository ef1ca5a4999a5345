pub mod ClipLemmas
pub mod Matching
pub mod Asking
