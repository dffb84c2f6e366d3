pub mod Housing
pub mod Answers
pub mod AnyCalls
pub mod Driving
pub mod OnRows
pub mod Copies
