pub mod Messages
pub mod Questions
pub mod Colours
pub mod Completions
pub mod Signatures
pub mod Remedies
pub mod Aids
