pub mod Seeking
pub mod Numbering
pub mod Leading
pub mod Walking
