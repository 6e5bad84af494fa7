pub mod Header
pub mod Script
pub mod Begins
pub mod Station
pub mod Text
pub mod Laws
