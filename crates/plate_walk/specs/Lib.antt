-- Walk is what a reader must believe; WalkLaws says that what the walk takes is what the plate holds.
pub mod Walk
pub mod WalkLaws
