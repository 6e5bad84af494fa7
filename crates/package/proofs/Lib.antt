pub mod Steps
pub mod Turns
pub mod Leads
pub mod Adds
pub mod Goes
pub mod Sets
pub mod Ends
