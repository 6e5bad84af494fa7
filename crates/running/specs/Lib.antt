pub mod States
pub mod Parts
pub mod Levels
pub mod Entries
