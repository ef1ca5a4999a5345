pub mod Sites
pub mod Meant
pub mod Tables
pub mod Firsts
