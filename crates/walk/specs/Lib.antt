pub mod Levels
pub mod Shown
pub mod Steps
pub mod Walks
