pub mod Round
pub mod NoteLaws
pub mod PlaceLaws
pub mod Held
pub mod HeldLaws
