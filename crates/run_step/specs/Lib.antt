pub mod Done
pub mod Taking
pub mod Arguments
pub mod Passing
pub mod Inside
pub mod Laws
