pub mod Restriction
pub mod RestrictionLaws
