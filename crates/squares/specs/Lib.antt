pub mod Held
pub mod SquaresLaws
