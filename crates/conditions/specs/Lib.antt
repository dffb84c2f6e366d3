-- Position is what a reader must believe; PositionLaws says that ranks are compared as value and step are,
-- Failing what the condition of a number tells of it.
pub mod Position
pub mod PositionLaws
pub mod Failing
