pub mod Weighing
pub mod WeighingLaws
pub mod OnRows
