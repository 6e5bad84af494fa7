pub mod Gaps
pub mod RightGaps
pub mod LevelGaps
