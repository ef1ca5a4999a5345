pub mod Answer
pub mod Starts
pub mod ReadingStatements
pub mod ReadingUnits
