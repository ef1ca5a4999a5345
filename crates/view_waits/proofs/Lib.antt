pub mod Nothing
pub mod Reasons
pub mod Blocked
pub mod Searched
pub mod Adding
pub mod Senders
pub mod Waiting
pub mod Filled
