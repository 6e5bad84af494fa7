pub mod Every
pub mod Standing
pub mod Named
pub mod Broad
pub mod Lying
pub mod Called
pub mod Smallest
