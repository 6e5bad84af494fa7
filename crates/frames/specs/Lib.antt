pub mod Kinds
pub mod Rights
pub mod RightLaws
pub mod Levels
pub mod LevelLaws
