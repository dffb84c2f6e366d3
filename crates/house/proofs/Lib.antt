-- What is proved of the definitions in specs/, and what the loops that copy records go by.
pub mod HousingLaws
pub mod DrivingLaws
pub mod Lent
pub mod AnswersExact
pub mod AnyCallsHold
pub mod Copying
