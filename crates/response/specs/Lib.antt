pub mod Response
pub mod ResponseLaws
pub mod RefusalLine
