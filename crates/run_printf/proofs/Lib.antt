mod Numerals
mod Printing
mod Rows
