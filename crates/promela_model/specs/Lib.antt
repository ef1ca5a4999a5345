pub mod Names
pub mod Marks
pub mod Stands
pub mod StandsModel
pub mod Conditions
pub mod Decided
