-- Lists and Steps have what the functions leave in their rows, Standing what the rounds keep; the others have their laws.
pub mod Lists
pub mod Steps
pub mod Standing
pub mod GrownLaws
pub mod LookLaws
pub mod VisitLaws
