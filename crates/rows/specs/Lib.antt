-- Numbers, Rows and FirstLine are definitions; the others have their laws.
pub mod Numbers
pub mod Rows
pub mod FirstLine
pub mod NumberLaws
pub mod Filling
pub mod Copies
pub mod Notes
pub mod RowsLaws
pub mod FirstLineLaws
pub mod Held
pub mod Holding
