pub mod Moves
pub mod Search
pub mod MoveLaws
