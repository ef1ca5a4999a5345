pub mod Names
pub mod Others
pub mod Named
pub mod Forms
pub mod Goals
pub mod Lines
