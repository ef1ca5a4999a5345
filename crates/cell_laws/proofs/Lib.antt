mod Evaluating
mod Printing
mod Reading
mod Rows
