pub mod Faults
pub mod Once
pub mod Holds
pub mod Walks
pub mod Items
pub mod Declares
pub mod Loads
