pub mod Tables
pub mod Cursor
pub mod Numbers
