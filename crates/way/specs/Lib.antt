-- The shortest way to ruin. Way is its definition, and Tight what computes it; the others, and proofs/, have their laws.
pub mod Way
pub mod Tight
pub mod Along
pub mod TightLaws
