-- What is proved of a run (specs/).
pub mod RunningLaws
pub mod AnswersExact
pub mod AnyTextsHold
pub mod Followed
