pub mod Solving
pub mod SettleLaws
pub mod SolveLaws
pub mod OneSolution
pub mod OnRows
