-- Distances has what the search leaves; the others have its laws.
pub mod Distances
pub mod QueueLaws
pub mod SearchLaws
