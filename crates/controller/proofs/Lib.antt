pub mod Says
pub mod Replays
