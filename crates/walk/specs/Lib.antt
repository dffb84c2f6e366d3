-- Decoded and Walked are what the contracts say: the rows of a text's lines, and what a walk that passes tells; WalkLaws leads to them.
pub mod Decoded
pub mod Walked
pub mod WalkLaws
