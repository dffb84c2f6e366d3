-- That the demands hold: each file composes what the crates below have shown.
pub mod Demand1Holds
pub mod HouseRows
pub mod ReportRows
pub mod RowLaws
pub mod RuinRows
pub mod SmallRows
pub mod Demand3Holds
pub mod SmallChartsHold
pub mod EdgeChartsHold
pub mod TwoWaysHold
pub mod BlankMarksHold
pub mod GoodMovesHold
pub mod RestHolds
pub mod WayToRuinHolds
