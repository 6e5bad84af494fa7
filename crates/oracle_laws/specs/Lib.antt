pub mod Blocks
pub mod Sets
pub mod Smallest
