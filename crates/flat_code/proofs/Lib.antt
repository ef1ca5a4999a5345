pub mod Starting
pub mod Laying
pub mod Standing
pub mod Widening
pub mod Rows
