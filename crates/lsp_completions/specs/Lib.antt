pub mod Fronts
pub mod Items
pub mod Readables
pub mod Wishes
