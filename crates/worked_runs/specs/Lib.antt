pub mod Seen
pub mod Printed
pub mod Ends
