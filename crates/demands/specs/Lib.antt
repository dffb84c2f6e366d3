-- The mission's demands, stated over what the jobs ensure. The proofs, which only compose what the crates below have shown, are in proofs/.
pub mod Sanctioned
pub mod Demand1
pub mod Demand2
pub mod Journal
pub mod Demand3
pub mod BlankMarks
pub mod GoodMoves
pub mod Rest
pub mod WayToRuin
pub mod TwoWays
pub mod SmallCharts
pub mod EdgeCharts
pub mod SanctionedLaws
pub mod ReadBack
pub mod Printed
