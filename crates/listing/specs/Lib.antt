pub mod Numbered
pub mod Lines
pub mod Bodies
pub mod Causes
pub mod Steps
