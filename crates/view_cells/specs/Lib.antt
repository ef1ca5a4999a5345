pub mod Cells
pub mod Processes
