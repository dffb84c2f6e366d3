pub mod Valuing
pub mod ValuedMeans
pub mod ValuingLaws
pub mod Columns
pub mod ValuedMeansHold
pub mod OnRows
