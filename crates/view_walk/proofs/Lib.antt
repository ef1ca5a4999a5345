pub mod Taken
pub mod Leads
pub mod Walking
