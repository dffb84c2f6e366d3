pub mod Loaded
pub mod LoadedLaws
