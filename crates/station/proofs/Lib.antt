pub mod Scripts
pub mod Orders
