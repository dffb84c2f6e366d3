-- Sheet, Ruin and OnRows are definitions; the others have their laws.
pub mod Sheet
pub mod Ruin
pub mod TightRows
pub mod WayLines
pub mod RuinLaws
pub mod OnRows
