pub mod Printed
pub mod Printing
