pub mod Cases
pub mod FirstLaws
pub mod HandedOn
