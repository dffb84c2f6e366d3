pub mod Checking
pub mod OnRows
pub mod Answers
pub mod CheckingLaws
pub mod AnswersExact
pub mod Plates
