pub mod Numbering
pub mod Tells
pub mod Procedures
pub mod Joins
