pub mod Generating
pub mod GeneratingLaws
