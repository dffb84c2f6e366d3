pub mod Writing
pub mod Ranges
pub mod WritingLaws
pub mod OnRows
