pub mod Running
pub mod OnRows
pub mod Answers
pub mod AnyTexts
pub mod Following
