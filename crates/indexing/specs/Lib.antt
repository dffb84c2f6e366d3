pub mod Indexing
pub mod IndexingLaws
pub mod OnRows
